-- Members whose keys differ, as they are read.
use Rattle.std.proofs.Common.{◌≡◌, ◌∙◌, ◌||◌, ℕ, Bool, true, false, cond, List, [], ◌∷◌, ◌++◌, Option, Some, None, Ok, Err, refl, sym, ap, inl, String, string_bytes}
use Rattle.std.specs.Prelude.{Result, IfErr, is_some, if◌then◌else◌}
use Rattle.std.specs.List.{All, AllByRecursion, IsDistinct, list_any}
use Rattle.std.specs.HashMap.{get_by_text}
use Rattle.std.specs.Map.{keys_of, lookup}
use Rattle.std.specs.Str.{bytes_eq, encode_utf8_all}
use Rattle.std.specs.declared.alloc.Global.{Global}
use Rattle.std.proofs.Math.Path.{fun_ext}
use Rattle.std.proofs.lemmas.Bool.{false≢true}
use Rattle.std.proofs.lemmas.List.{append-nil, append_assoc, map-append}
use Rattle.std.proofs.lemmas.List.Elements.{All-head, All-tail}
use Rattle.std.proofs.lemmas.Slice.Eq.{bytes_eq-Decides}
use Rattle.std.proofs.lemmas.Str.{IsUtf8-string_bytes, encodes-chars}
use Rattle.indexmap.specs.IndexMap.{IndexMap, insert_entry}
use Rattle.indexmap.proofs.CallerLemmas.{insert_entry-new}
use Rattle.json5_grammar.specs.Language.Trees.{Tree, Members, null, boolean, number, text, array, object, no_member, member}
use Rattle.json5_grammar.specs.Model.Collections.{both, joint, object_of, pair_contents}
use Rattle.json5_types.specs.declared.error.Error.{Error}
use Rattle.json5_types.specs.Errors.{LacksMemory}
use Rattle.json5_read.proofs.NoFailedCode.{memory_other}
use Rattle.json5_de.specs.Convert.{every_text}
use Rattle.json5_de.specs.ConvertLists.{if_some}
use Rattle.json5_de.specs.DeserializeLaw.{IsUnprompted}
use Rattle.json5_de.specs.Fields.{IsOwnAtBracket}
use Rattle.json5_de.specs.Lending.{map_state_of, at_its_key, KeepsMap, KeyIsNamed, ReadsNextValue}
use Rattle.json5_de.specs.Maps.{pair_content, pairs_of}
use Rattle.json5_de.specs.Objects.{GivesMemberValue, MapAccessState}
use Rattle.json5_de.specs.Plans.{Plan, TakesMember, run, whole}
use Rattle.json5_de.specs.Refinement.{if_more, refined}
use Rattle.json5_de.specs.State.{State}
use Rattle.json5_de.specs.StructFaults.{RefusesMember, StructFault, or_of}
use Rattle.json5_de.specs.StructFaults as faults
use Rattle.json5_de.specs.declared.map.MapAccess.{MapAccess}
use Rattle.json5_ser.specs.EscapeFreeMarks.{field_marks, marks}
use Rattle.json5_ser.specs.WrittenTrees.{Written, fields_of}
use Rattle.json5_fields.specs.FieldCalls.{first_value, of_type, second_value}
use Rattle.json5_fields.proofs.Described.{made_of}
use Rattle.json5_settings_types.specs.Keys.{IsAdded, KeysFault, RefusesKeys, has_key, in_members, key_step, members_of, not_opened, of_memory, same_key, written_key}
use Rattle.json5_settings_types.specs.Twins.{if_no_twins, no_twins}
use Rattle.json5_settings_types.proofs.ReadTypes.{twins_none, twins_some}
use Rattle.json5_settings_types.proofs.TwinsSeen.{in_front, snoc}

-- equal texts, the other way round
bytes_comm : (a b : List ℕ) → bytes_eq a b ≡ bytes_eq b a
bytes_comm a b = by (bytes_eq a b) (bytes_eq b a) refl refl
  where
    by : (x y : Bool) → bytes_eq a b ≡ x → bytes_eq b a ≡ y → x ≡ y
    by true true p q = refl
    by false false p q = refl
    by true false p q = absurd (false≢true (sym q ∙ (bytes_eq-Decides b a).1 (sym ((bytes_eq-Decides a b).0 p))))
    by false true p q = absurd (false≢true (sym p ∙ (bytes_eq-Decides a b).1 (sym ((bytes_eq-Decides b a).0 q))))

-- the map has the key where a member has it
pub found : {V C : Type 0} (content : V → C) (name : List ℕ) (es : List (String Global × V)) → is_some (lookup (λ k. bytes_eq name (string_bytes k)) es) ≡ has_key (members_of content es) name
found content name [] = refl
found content name (e ∷ es) = by (bytes_eq name (string_bytes e.0)) (found content name es) ∙ ap (λ b. b || has_key (members_of content es) name) (bytes_comm name (string_bytes e.0))
  where
    by : (b : Bool) → is_some (lookup (λ k. bytes_eq name (string_bytes k)) es) ≡ has_key (members_of content es) name
        → is_some (cond b (Some e.1) (lookup (λ k. bytes_eq name (string_bytes k)) es)) ≡ (b || has_key (members_of content es) name)
    by true rest = refl
    by false rest = rest

pub some_made : {A B : Type 0} (g : A → B) (o : Option A) → is_some (if_some g o) ≡ is_some o
some_made g None = refl
some_made g (Some a) = refl

-- ---- all members

module _ {C : Type 0} (values : Tree → Option C) where
  pub stands : (s : List (List ℕ × C)) (name : List ℕ) (t : Tree) → has_key s name ≡ false → key_step values s name t ≡ if_some (λ c. s ++ (name, c) ∷ []) (values t)
  unfolding key_step
  stands s name t new = rw new refl

  pub stands_not : (s : List (List ℕ × C)) (name : List ℕ) (t : Tree) → has_key s name ≡ true → key_step values s name t ≡ None
  unfolding key_step
  stands_not s name t has = rw has refl

  -- what members make of those before them is what they all are, where no two have one key
  pub taken : (s : List (List ℕ × C)) (ps : Members) → no_twins same_key s ≡ true → if_more (λ qs. if_no_twins same_key (s ++ qs)) (pair_contents every_text values ps) ≡ run (key_step values) s ps
  unfolding key_step
  taken s no_member none = ap (if_no_twins same_key) (append-nil s) ∙ twins_some same_key s none
  taken s (member u escape_free t ps) none = by (values t) (has_key s (encode_utf8_all u)) refl (λ n differ. taken n ps differ)
    where
      name : List ℕ
      name = encode_utf8_all u

      others : Option (List (List ℕ × C))
      others = pair_contents every_text values ps

      twins : (c : C) (qs : List (List ℕ × C)) → has_key s name ≡ true → no_twins same_key (s ++ (name, c) ∷ qs) ≡ false
      twins c qs has = ap (no_twins same_key) (sym (append_assoc s ((name, c) ∷ []) qs)) ∙ in_front same_key (s ++ (name, c) ∷ []) qs (snoc same_key s (name, c) ∙ rw (none, has) refl)

      refused : (c : C) (o : Option (List (List ℕ × C))) → has_key s name ≡ true → if_more (λ qs. if_no_twins same_key (s ++ qs)) (both (Some (name, c)) o) ≡ None
      refused c None has = refl
      refused c (Some qs) has = twins_none same_key (s ++ (name, c) ∷ qs) (twins c qs has)

      moved : (c : C) (o : Option (List (List ℕ × C))) → if_more (λ qs. if_no_twins same_key (s ++ qs)) (both (Some (name, c)) o) ≡ if_more (λ qs. if_no_twins same_key ((s ++ (name, c) ∷ []) ++ qs)) o
      moved c None = refl
      moved c (Some qs) = ap (if_no_twins same_key) (sym (append_assoc s ((name, c) ∷ []) qs))

      by : (o : Option C) (b : Bool) → has_key s name ≡ b → ((n : List (List ℕ × C)) → no_twins same_key n ≡ true → if_more (λ qs. if_no_twins same_key (n ++ qs)) others ≡ run (key_step values) n ps)
          → if_more (λ qs. if_no_twins same_key (s ++ qs)) (both (joint (Some name) o) others) ≡ if_more (λ n. run (key_step values) n ps) (if b then None else if_some (λ c. s ++ (name, c) ∷ []) o)
      by None true has rest = refl
      by None false has rest = refl
      by (Some c) true has rest = refused c others has
      by (Some c) false has rest = moved c others ∙ rest (s ++ (name, c) ∷ []) (snoc same_key s (name, c) ∙ rw (none, has) refl)

  abbrev pub key_plan : Plan (List (List ℕ × C)) (List (List ℕ × C))
  key_plan = record { step = key_step values; start = []; build = λ s. Some s; convert = λ ps. if_more (if_no_twins same_key) (pair_contents every_text values ps); says = λ ps. taken [] ps refl ∙ whole (run (key_step values) [] ps) }

  same_taken : (t : Tree) → object_of key_plan.convert t ≡ refined (pairs_of every_text values) (if_no_twins same_key) t
  same_taken null = refl
  same_taken (boolean b) = refl
  same_taken (number n) = refl
  same_taken (text u escape_free) = refl
  same_taken (array ts) = refl
  same_taken (object ps) = refl

  pub same_convert : object_of key_plan.convert ≡ refined (pairs_of every_text values) (if_no_twins same_key)
  same_convert = fun_ext same_taken

-- ---- a member

pub both_keep : {I : Type 0} {a b c : MapAccess I} → KeepsMap a b → KeepsMap b c → KeepsMap a c
both_keep p q = record { same_reference = q.same_reference ∙ p.same_reference; blocks = q.blocks; start = q.start ∙ p.start; same_text = q.same_text ∙ p.same_text }

live_value : {V C : Type 0} (content : V → C) (values : Tree → Option C) (old new : MapAccessState) (v : V) → GivesMemberValue content values old new v → new.at.reader.failed ≡ false
live_value content values old new v (t, took, converts, comma_due, none) = ap (λ (s : State). s.failed) took.rest ∙ took.live

module _ {I V C : Type 0} (content : V → C) (values : Tree → Option C) (refuses : State → Error → State → Type 0) (s : List (List ℕ × C)) (name : List ℕ) (old : MapAccess I) where
  module _ (new : has_key s name ≡ false) (next : MapAccess I) where
    -- the value of a new key was read
    pub kept : (v : V) → ReadsNextValue content values refuses old next (Ok v) → TakesMember (key_step values) s (s ++ (name, content v) ∷ []) name (map_state_of old) (map_state_of next) (Ok tt)
    kept v is = record {
      read = let (t, converts, on) = is.read in (t, stands values s name t new ∙ ap (if_some (λ c. s ++ (name, c) ∷ [])) converts, on);
      left = λ u escape_free t ps r m takes left.
          let (converts, others) = is.left u escape_free t ps r left in
          let one : Some m ≡ Some (s ++ (name, content v) ∷ []) = sym takes ∙ stands values s name t new ∙ ap (if_some (λ c. s ++ (name, c) ∷ [])) converts in
          (cc one, others);
      live = live_value content values (map_state_of old) (map_state_of next) v is.sound;
      shorter = is.shorter;
      failed = tt;
      unprompted = tt;
    }

    -- it was refused
    pub not_read : (e : Error) → ReadsNextValue content values refuses old next (Err e) → TakesMember (key_step values) s s name (map_state_of old) (map_state_of next) (Err e)
    not_read e is = record {
      read = tt;
      left = λ u escape_free t ps r m takes left. let (c, converts, made) = made_of (λ c. s ++ (name, c) ∷ []) m (values t) (sym (stands values s name t new) ∙ takes) in is.left u escape_free t ps r left c converts;
      live = tt;
      shorter = tt;
      failed = is.refused.failed;
      unprompted = is.refused.unprompted;
    }

    pub not_read_refused : (e : Error) → ReadsNextValue content values refuses old next (Err e) → RefusesMember (or_of (of_type values refuses) of_memory) (key_step values) s name (map_state_of old) (Err e)
    not_read_refused e is = λ live. inl (first_value (λ t. ap is_some (stands values s name t new) ∙ some_made (λ c. s ++ (name, c) ∷ []) (values t)) (is.refused.cause live))

  -- a key that came before is refused
  module _ (has : has_key s name ≡ true) (e : Error) where
    pub twice : (next : MapAccess I) → (map_state_of next).at.reader.failed ≡ true → ((map_state_of old).at.reader.failed ≡ false → IsUnprompted e) → TakesMember (key_step values) s s name (map_state_of old) (map_state_of next) (Err e)
    twice next failed unprompted = record {
      read = tt;
      left = λ u escape_free t ps r m takes left. let none = stands_not values s name t has in absurd (cc (none, takes));
      live = tt;
      shorter = tt;
      failed = failed;
      unprompted = unprompted;
    }

    pub twice_refused : KeyIsNamed name old → ((map_state_of old).at.reader.failed ≡ false → IsOwnAtBracket (at_its_key old) e) → RefusesMember (or_of (of_type values refuses) of_memory) (key_step values) s name (map_state_of old) (Err e)
    twice_refused named own = λ live. inl (second_value (λ t. ap is_some (stands_not values s name t has)) (record { start = old.key_start; begins = named; fault = own live }))

-- the member came last
pub grown : {V C : Type 0} (content : V → C) (es : List (String Global × V)) (name : List ℕ) (v : V) (new : List (String Global × V)) → IsAdded es name v new → members_of content es ++ (name, content v) ∷ [] ≡ members_of content new
grown content es name v new (key, is, same) = sym (ap (members_of content) same ∙ map-append (pair_content string_bytes content) es ((key, v) ∷ []) ∙ ap (λ n. members_of content es ++ (n, content v) ∷ []) is)

-- a new key goes last
pub put_last : {V S : Type 0} (m n : IndexMap (String Global) V S) (name : List ℕ) (key : String Global) (v : V) → get_by_text m name ≡ None → string_bytes key ≡ name
    → n.entries ≡ insert_entry (λ x y. bytes_eq (string_bytes x) (string_bytes y)) m.entries key v → n.entries ≡ m.entries ++ (key, v) ∷ []
put_last m n name key v none is entries = entries ∙ insert_entry-new (λ x y. bytes_eq (string_bytes x) (string_bytes y)) m key v (ap (get_by_text m) is ∙ none)

-- memory for it ran out
pub not_added : {I C : Type 0} (values : Tree → Option C) (s : List (List ℕ × C)) (name : List ℕ) (old next : MapAccess I) (e : Error) → LacksMemory e → (map_state_of next).at.reader.failed ≡ true → TakesMember (key_step values) s s name (map_state_of old) (map_state_of next) (Err e)
not_added values s name old next e lacks failed = record { read = tt; left = λ u escape_free t ps r m takes left. lacks.kind; live = tt; shorter = tt; failed = failed; unprompted = λ live. memory_other e lacks.kind }

-- ---- the object

pub its_faults : {C U : Type 0} (values : Tree → Option C) (refuses : State → Error → State → Type 0) (old new : State) (result : Result U Error)
    → IfErr result (λ e. old.failed ≡ false → StructFault (key_plan values) (or_of (of_type values refuses) of_memory) old e) → IfErr result (λ e. RefusesKeys values refuses old e new)
its_faults values refuses old new (Ok u) is = tt
its_faults values refuses old new (Err e) is = λ live. by (is live)
  where
    by : StructFault (key_plan values) (or_of (of_type values refuses) of_memory) old e → KeysFault values refuses old e
    by (faults.not_opened refused) = not_opened refused
    by (faults.in_pairs first opened fault) = in_members first opened fault
    by (faults.missing first now s r opened since at none own) = absurd (cc none)

-- ---- what is written reads back

none_like : {V C : Type 0} (content : V → C) (k : String Global) (c : C) (es : List (String Global × V)) → AllByRecursion (λ j. bytes_eq (string_bytes k) (string_bytes j) ≡ false) (keys_of es) → list_any (same_key (string_bytes k, c)) (members_of content es) ≡ false
none_like content k c [] differ = refl
none_like content k c (e ∷ es) differ = rw (differ.0) (none_like content k c es differ.1)

apart : {V C : Type 0} (content : V → C) (es : List (String Global × V)) → IsDistinct (λ k j. bytes_eq (string_bytes k) (string_bytes j)) (keys_of es) → no_twins same_key (members_of content es) ≡ true
unfolding IsDistinct
apart content [] differ = refl
apart content (e ∷ es) differ = rw (none_like content e.0 (content e.1) es differ.0) (apart content es differ.1)

put_first : {C : Type 0} {a k : List ℕ} {o : Option C} {c : C} {r : Option (List (List ℕ × C))} {cs : List (List ℕ × C)} → a ≡ k → o ≡ Some c → r ≡ Some cs → both (joint (Some a) o) r ≡ Some ((k, c) ∷ cs)
put_first key value others = rw (key, value, others) refl

members_back : {V C : Type 0} (tree : V → Written) (values : Tree → Option C) (content : V → C) (es : List (String Global × V)) → All (λ e. values (marks (tree e.1)) ≡ Some (content e.1)) es
    → pair_contents every_text values (field_marks (fields_of written_key tree es)) ≡ Some (members_of content es)
members_back tree values content [] back = refl
members_back tree values content (e ∷ es) back =
    let first = All-head (λ e. values (marks (tree e.1)) ≡ Some (content e.1)) e es back in
    let others = members_back tree values content es (All-tail (λ e. values (marks (tree e.1)) ≡ Some (content e.1)) e es back) in
    put_first (encodes-chars (string_bytes e.0) (IsUtf8-string_bytes e.0)) first others

pub keys_back : {V C : Type 0} (tree : V → Written) (values : Tree → Option C) (content : V → C) (es : List (String Global × V)) → IsDistinct (λ k j. bytes_eq (string_bytes k) (string_bytes j)) (keys_of es) → All (λ e. values (marks (tree e.1)) ≡ Some (content e.1)) es
    → if_more (if_no_twins same_key) (pair_contents every_text values (field_marks (fields_of written_key tree es))) ≡ Some (members_of content es)
keys_back tree values content es differ back = ap (if_more (if_no_twins same_key)) (members_back tree values content es back) ∙ twins_some same_key (members_of content es) (apart content es differ)
