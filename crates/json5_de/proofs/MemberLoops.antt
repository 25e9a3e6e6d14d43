-- An object whose members are read in a loop: what was read, and what is left.
use Rattle.std.proofs.Common.{◌≡◌, ℕ, ◌+◌, ◌≤◌, Bool, true, false, List, [], ◌∷◌, ◌++◌, length, map, refl, sym, ap, ◌∙◌, subst, Option, Some, None, Ok, Err}
use Rattle.std.proofs.lemmas.List.{map-append}
use Rattle.std.proofs.lemmas.Bool.{false≢true}
use Rattle.std.specs.Prelude.{Result, IsOk, IfErr, IsErrAnd}
use Rattle.std.specs.Str.{encode_utf8_all}
use Rattle.json5_grammar.specs.Language.Characters.{left_brace}
use Rattle.json5_grammar.specs.Language.Documents.{max_depth}
use Rattle.json5_grammar.specs.Language.Trees.{Tree, Members, object, no_member, member, depth}
use Rattle.json5_grammar.specs.Language.Values.{Reads}
use Rattle.json5_grammar.specs.Model.Collections.{IsBrace, joint, pair_contents, snoc_member}
use Rattle.json5_grammar.proofs.CommonLemmas.{true_false}
use Rattle.json5_grammar.proofs.ElementsConverted.{both_parts}
use Rattle.json5_grammar.proofs.ObjectsRead.{brace_closes}
use Rattle.json5_grammar.proofs.MembersConverted.{pair_contents_snoc, pair_contents_at, object_only}
use Rattle.json5_types.specs.declared.error.Error.{Error}
use Rattle.json5_tokens.specs.Cursor.{IsOutOfMemory}
use Rattle.json5_de.specs.State.{State}
use Rattle.json5_read.specs.Brackets.{curly}
use Rattle.json5_de.specs.DeserializeLaw.{TookValue, Completes, Gives}
use Rattle.json5_de.specs.Arrays.{Opened, AtClose}
use Rattle.json5_de.specs.Keys.{KeyConversion}
use Rattle.json5_de.specs.Objects.{MapAccessState, MembersRead, MembersLeft, ReadsAKey, ReadsAMember, LeavesAValue, LeavesObjectMembers, LeftAfter, OpensMap, ClosesMap}
use Rattle.json5_de.specs.ObjectFaults.{KeyRefusedAtBrace, ValueRefusedAtBrace}
use Rattle.json5_de.specs.Maps.{pair_content, pairs_of}
use Rattle.json5_de.specs.MapFaults.{Sides, WithinMap, MapFault, RefusesMap, at_key, at_value}
use Rattle.json5_de.proofs.ElementLoops.{handed_on}

-- members that convert are left
pub record LeftMembers {C D : Type 0} (keys : KeyConversion C) (values : Tree → Option D) (r : List ℕ) (now : MapAccessState) : Type 0 where
  pub pairs : Members
  pub contents : List (C × D)
  pub are : pair_contents keys values pairs ≡ Some contents
  pub left : MembersLeft pairs r now

-- an object between two members, or after a key: the list is what the members that were read convert to, and if all of the object
-- converts, the other members are left
pub record ReadingMembers {K V C D : Type 0} (key : K → C) (value : V → D) (keys : KeyConversion C) (values : Tree → Option D) (old : State) (ps : List (K × V)) (waits : Option (List ℕ × Bool)) (now : MapAccessState) : Type 0 where
  pub first : State
  pub opened : Opened curly old first
  pub start : (before : List ℕ) → old.input ≡ before ++ left_brace ∷ first.unread → now.at.start ≡ length (encode_utf8_all before)
  pub pairs : Members
  pub are : pair_contents keys values pairs ≡ Some (map (pair_content key value) ps)
  pub read : MembersRead old pairs waits now
  pub left : (all : Members) (r : List ℕ) (cs : List (C × D)) → pair_contents keys values all ≡ Some cs → old.failed ≡ false → Reads old.unread (object all) r → old.level + depth (object all) ≤ max_depth → LeftMembers keys values r now

-- the same after a key was read that converts to k
abbrev pub AfterKey : {K V C D : Type 0} → (K → C) → (V → D) → KeyConversion C → (Tree → Option D) → State → List (K × V) → K → MapAccessState → Type 0
AfterKey key value keys values old ps k now = (u : List ℕ) × (escape_free : Bool) × (keys u escape_free ≡ Some (key k)) × ReadingMembers key value keys values old ps (Some (u, escape_free)) now

module _ {K V C D : Type 0} (key : K → C) (value : V → D) (keys : KeyConversion C) (values : Tree → Option D) where
  key_left : (k : K) (all : Members) (cs : List (C × D)) (r : List ℕ) (new : MapAccessState) → pair_contents keys values all ≡ Some cs → LeavesAValue key keys all r new (Ok (Some k)) → LeftMembers keys values r new
  key_left k no_member cs r new are left = absurd left
  key_left k (member u escape_free t all) cs r new are (is, left) = record { pairs = member u escape_free t all; contents = cs; are = are; left = left }

  value_left : (v : V) (all : Members) (cs : List (C × D)) (r : List ℕ) (s new : MapAccessState) → pair_contents keys values all ≡ Some cs → s.pending ≡ true → MembersLeft all r s
      → ((u : List ℕ) (escape_free : Bool) (t : Tree) (others : Members) → MembersLeft (member u escape_free t others) r s → LeavesObjectMembers value values t others r new (Ok v)) → LeftMembers keys values r new
  value_left v no_member cs r s new are waits left fewer = absurd (subst (λ b. LeftAfter b no_member s.at.comma_due s.at.reader.unread r) waits left.tail)
  value_left v (member u escape_free t all) cs r s new are waits left fewer =
      let (c, rest, is, others, k) = both_parts (joint (keys u escape_free) (values t)) (pair_contents keys values all) cs are in
      record { pairs = all; contents = rest; are = others; left = (fewer u escape_free t all left).1 }

module _ {K V C D : Type 0} (key : K → C) (value : V → D) (keys : KeyConversion C) (values : Tree → Option D) {old : State} where
  -- it begins, with no member
  pub begins : {A : Type 0} {Held : A → Type 0} (state_of : A → MapAccessState) (a : A) → OpensMap Held state_of old (Ok a) → ReadingMembers key value keys values old [] None (state_of a)
  begins state_of a opens = record {
    first = (state_of a).at.reader;
    opened = opens.bracket.opened.0;
    start = opens.bracket.start;
    pairs = no_member;
    are = refl;
    read = opens.read;
    left = λ all r cs are live reads shallow. record { pairs = all; contents = cs; are = are; left = opens.left all r live reads shallow };
  }

  -- a key was read
  pub reads_key : {ps : List (K × V)} {s new : MapAccessState} (k : K) → ReadingMembers key value keys values old ps None s → new.at.start ≡ s.at.start → ReadsAKey key keys s new (Some k)
      → ((all : Members) (r : List ℕ) → MembersLeft all r s → LeavesAValue key keys all r new (Ok (Some k))) → AfterKey key value keys values old ps k new
  reads_key {new = new} k m start (u, escape_free, is, on) fewer = (
    u,
    escape_free,
    is,
    record {
      first = m.first;
      opened = m.opened;
      start = λ before split. start ∙ m.start before split;
      pairs = m.pairs;
      are = m.are;
      read = on old m.pairs m.read;
      left = λ all r cs are live reads shallow. let w = m.left all r cs are live reads shallow in key_left key value keys values k w.pairs w.contents r new w.are (fewer w.pairs r w.left);
    },
  )

  -- and its value
  pub reads_value : {ps qs : List (K × V)} {s new : MapAccessState} (k : K) (v : V) → AfterKey key value keys values old ps k s → qs ≡ ps ++ (k, v) ∷ [] → new.at.start ≡ s.at.start
      → ReadsAMember value values s new v → ((w : List ℕ) (allocation_free : Bool) (t : Tree) (others : Members) (r : List ℕ) → MembersLeft (member w allocation_free t others) r s → LeavesObjectMembers value values t others r new (Ok v)) → ReadingMembers key value keys values old qs None new
  reads_value {ps = ps} {s = s} {new = new} k v (u, escape_free, is, m) e start (t, stands, on) fewer = record {
    first = m.first;
    opened = m.opened;
    start = λ before split. start ∙ m.start before split;
    pairs = snoc_member m.pairs u escape_free t;
    are = let all = ap (λ xs. map (pair_content key value) xs) e ∙ map-append (pair_content key value) ps ((k, v) ∷ []) in
        rw all (pair_contents_snoc keys values m.pairs u escape_free t (map (pair_content key value) ps) (key k) (value v) m.are is stands);
    read = on old m.pairs u escape_free m.read;
    left = λ all r cs are live reads shallow. let w = m.left all r cs are live reads shallow in value_left key value keys values v w.pairs w.contents r s new w.are m.read.pending w.left (λ w allocation_free t others. fewer w allocation_free t others r);
  }

  -- it stops, and the brace was taken: what was read is the whole object
  pub stops : {ps : List (K × V)} {s now : MapAccessState} {last end : State} → ReadingMembers key value keys values old ps None s → end ≡ last → ReadsAKey key keys s now None
      → ((from : State) (all : Members) → MembersRead from all None now → TookValue from (object all) last) → Gives (map (pair_content key value)) (pairs_of keys values) old end ps
  stops m same on ends = (object m.pairs, subst (λ n. TookValue old (object m.pairs) n) (sym same) (ends old m.pairs (on old m.pairs m.read)), m.are)

-- ---- members that convert are read

module _ {U C D : Type 0} (keys : KeyConversion C) (values : Tree → Option D) (old : State) (e : Error) (result : Result U Error) where
  completes_as : IsErrAnd result (λ y. y ≡ e)
      → ((all : Members) (r : List ℕ) (cs : List (C × D)) → pair_contents keys values all ≡ Some cs → old.failed ≡ false → Reads old.unread (object all) r → old.level + depth (object all) ≤ max_depth → IsOutOfMemory e)
      → Completes (pairs_of keys values) old result
  completes_as is_err k = handed_on (λ r. Completes (pairs_of keys values) old r) e result is_err (record {
    memory = λ t r c live reads shallow is.
        let (all, same, are) = object_only (pair_contents keys values) t c is in
        k all r c are live (subst (λ u. Reads old.unread u r) same reads) (subst (λ u. old.level + depth u ≤ max_depth) same shallow);
  })

module _ {K V C D : Type 0} (key : K → C) (value : V → D) (keys : KeyConversion C) (values : Tree → Option D) (r : List ℕ) (new : MapAccessState) where
  key_refused : (e : Error) (all : Members) (cs : List (C × D)) → pair_contents keys values all ≡ Some cs → LeavesAValue key keys all r new (Err e) → IsOutOfMemory e
  key_refused e no_member cs are left = absurd left
  key_refused e (member u escape_free t all) cs are left = let (k, v, is_key, is_value) = pair_contents_at keys values no_member all u escape_free t cs are in left k is_key

  no_pair_left : (all : Members) → LeavesAValue key keys all r new (Ok None) → MembersLeft no_member r new
  no_pair_left no_member left = left
  no_pair_left (member u escape_free t all) left = absurd left

module _ {C D : Type 0} (keys : KeyConversion C) (values : Tree → Option D) (r : List ℕ) where
  value_refused : (e : Error) (all : Members) (cs : List (C × D)) (s : MapAccessState) → pair_contents keys values all ≡ Some cs → s.pending ≡ true → MembersLeft all r s
      → ((u : List ℕ) (escape_free : Bool) (t : Tree) (others : Members) → MembersLeft (member u escape_free t others) r s → (d : D) → values t ≡ Some d → IsOutOfMemory e) → IsOutOfMemory e
  value_refused e no_member cs s are waits left fewer = absurd (subst (λ b. LeftAfter b no_member s.at.comma_due s.at.reader.unread r) waits left.tail)
  value_refused e (member u escape_free t all) cs s are waits left fewer = let (k, v, is_key, is_value) = pair_contents_at keys values no_member all u escape_free t cs are in fewer u escape_free t all left v is_value

module _ {U K V C D : Type 0} {key : K → C} {value : V → D} {keys : KeyConversion C} {values : Tree → Option D} {old : State} {ps : List (K × V)} {s new : MapAccessState} (e : Error) (result : Result U Error) where
  -- a key was refused
  pub key_completes : IsErrAnd result (λ y. y ≡ e) → ReadingMembers key value keys values old ps None s → ((all : Members) (r : List ℕ) → MembersLeft all r s → LeavesAValue key keys all r new (Err e)) → Completes (pairs_of keys values) old result
  key_completes is_err m fewer = completes_as keys values old e result is_err (λ all r cs are live reads shallow.
      let w = m.left all r cs are live reads shallow in
      key_refused key value keys values r new e w.pairs w.contents w.are (fewer w.pairs r w.left))

  -- no key was returned, and the brace was refused
  pub end_completes : IsErrAnd result (λ y. y ≡ e) → ReadingMembers key value keys values old ps None s → ((all : Members) (r : List ℕ) → MembersLeft all r s → LeavesAValue key keys all r new (Ok None))
      → ((r : List ℕ) → MembersLeft no_member r new → IsOk {T = Unit {0}} {E = Error} (Err e)) → Completes (pairs_of keys values) old result
  end_completes is_err m fewer ends = completes_as keys values old e result is_err (λ all r cs are live reads shallow.
      let w = m.left all r cs are live reads shallow in
      absurd (false≢true (ends r (no_pair_left key value keys values r new w.pairs (fewer w.pairs r w.left)))))

module _ {U K V C D : Type 0} {key : K → C} {value : V → D} {keys : KeyConversion C} {values : Tree → Option D} {old : State} {ps : List (K × V)} {s : MapAccessState} (e : Error) (result : Result U Error) where
  -- a value was refused
  pub value_completes : (k : K) → IsErrAnd result (λ y. y ≡ e) → AfterKey key value keys values old ps k s
      → ((w : List ℕ) (allocation_free : Bool) (t : Tree) (others : Members) (r : List ℕ) → MembersLeft (member w allocation_free t others) r s → (d : D) → values t ≡ Some d → IsOutOfMemory e) → Completes (pairs_of keys values) old result
  value_completes k is_err (u, escape_free, is, m) fewer = completes_as keys values old e result is_err (λ all r cs are live reads shallow.
      let w = m.left all r cs are live reads shallow in
      value_refused keys values r e w.pairs w.contents s w.are m.read.pending w.left (λ u escape_free t others. fewer u escape_free t others r))

-- ---- where it is refused

within : {K V C D : Type 0} {key : K → C} {value : V → D} {keys : KeyConversion C} {values : Tree → Option D} {old : State} {ps : List (K × V)} {waits : Option (List ℕ × Bool)} {s : MapAccessState} → ReadingMembers key value keys values old ps waits s
    → WithinMap keys values old waits s
within {key = key} {value = value} {ps = ps} m = record { first = m.first; opened = m.opened; start = m.start; pairs = m.pairs; contents = map (pair_content key value) ps; are = m.are; read = m.read }

-- an access within an object hasn't failed
live : {C D : Type 0} {keys : KeyConversion C} {values : Tree → Option D} {old : State} {waits : Option (List ℕ × Bool)} {s : MapAccessState} → WithinMap keys values old waits s → s.at.reader.failed ≡ false
live w = ap (λ (s : State). s.failed) w.read.rest ∙ w.read.live

refuses_map : {C D : Type 0} (sides : Sides C D) (old : State) (e : Error) (new : State) → old.failed ≡ false → new.failed ≡ true → MapFault sides old e → RefusesMap sides old e new
refuses_map sides old e new live failed fault = record { cause = λ l. fault; failed = failed; before = λ h. absurd (true_false h live) }

module _ {U K V C D : Type 0} {key : K → C} {value : V → D} (sides : Sides C D) {old : State} {ps : List (K × V)} {s : MapAccessState} (e : Error) (result : Result U Error) (new : State) where
  -- a key was refused
  pub key_faults : IsErrAnd result (λ y. y ≡ e) → ReadingMembers key value sides.keys sides.values old ps None s → (s.at.reader.failed ≡ false → KeyRefusedAtBrace sides.refuses_key s e) → new.failed ≡ true → IfErr result (λ y. RefusesMap sides old y new)
  key_faults is_err m fault failed = handed_on (λ r. IfErr r (λ y. RefusesMap sides old y new)) e result is_err (refuses_map sides old e new m.opened.live failed (at_key s (within m) (fault (live (within m)))))

  -- a value was refused
  pub value_faults : (k : K) → IsErrAnd result (λ y. y ≡ e) → AfterKey key value sides.keys sides.values old ps k s
      → (s.at.reader.failed ≡ false → ValueRefusedAtBrace sides.refuses_value s e) → new.failed ≡ true → IfErr result (λ y. RefusesMap sides old y new)
  value_faults k is_err (u, escape_free, is, m) fault failed =
      handed_on (λ r. IfErr r (λ y. RefusesMap sides old y new)) e result is_err (refuses_map sides old e new m.opened.live failed (at_value s u escape_free (key k) is (within m) (fault (live (within m)))))

-- where its brace is next it is closed
pub closes_there : (old now : MapAccessState) (new : State) (e : Error) → AtClose curly old.at.comma_due old.at.reader now.at.reader → ClosesMap now new (Err e) → {A : Type 0} → A
closes_there old now new e at closes =
    let (r, close, next) = at.close in
    let live = ap (λ (s : State). s.failed) at.rest ∙ at.live in
    let ok = closes.bracket.complete r live (subst (λ x. IsBrace now.at.comma_due x r) (sym next) (brace_closes now.at.comma_due r)) in
    absurd (cc)
