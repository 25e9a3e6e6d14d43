-- Structs: which field each name's value goes to, what a member changes, and how a struct is read.
use Rattle.std.proofs.Common.{◌≡◌, ◌≢◌, ℕ, ◌+◌, ◌≤◌, Bool, true, false, List, ◌∷◌, refl, sym, ap, ◌∙◌, subst, unwrap_or, Option, Some, None, Ok, Err}
use Rattle.std.proofs.lemmas.Bool.{and_parts, false≢true, false_from_ne_true}
use Rattle.std.proofs.lemmas.Slice.Eq.{bytes_eq-Decides}
use Rattle.std.specs.Prelude.{Result, OnOk, IsOk, IsErrAnd}
use Rattle.std.specs.Str.{bytes_eq, encode_utf8_all}
use Rattle.json5_grammar.specs.Language.Characters.{right_brace}
use Rattle.json5_grammar.specs.Language.Documents.{max_depth}
use Rattle.json5_grammar.specs.Language.Trees.{Tree, Members, object, no_member, member, depth}
use Rattle.json5_grammar.specs.Language.Values.{Reads}
use Rattle.json5_grammar.specs.Model.Collections.{joint, snoc_member, object_of}
use Rattle.json5_grammar.proofs.MembersConverted.{object_only}
use Rattle.json5_types.specs.declared.error.Error.{Error}
use Rattle.json5_tokens.specs.Cursor.{IsOutOfMemory}
use Rattle.json5_de.specs.State.{State}
use Rattle.json5_de.specs.ConvertLists.{if_some}
use Rattle.json5_de.specs.DeserializeLaw.{TookValue, Completes, CompletesFree, IsUnprompted, Unprompted}
use Rattle.json5_de.specs.Refinement.{if_more}
use Rattle.json5_de.specs.Keys.{KeyConversion}
use Rattle.json5_de.specs.Objects.{MapAccessState, GivesMemberKey, MembersRead, MembersLeft, ReadsAKey, ReadsKeyFree, LeavesAValue, OpensMap}
use Rattle.json5_de.specs.Fields.{or_value, FieldRead, FillsField, LeavesFilled}
use Rattle.json5_de.specs.Convert.{every_text}
use Rattle.json5_de.specs.Lending.{map_state_of}
use Rattle.json5_de.specs.declared.map.MapAccess.{MapAccess}
use Rattle.json5_de.specs.Plans.{LeavesTaken, PassesMember, Plan, Step, run, at_name, both_steps, all_free, object_free, TakesMember, TakesFree, ReadsMembers, ReadsFree}
use Rattle.json5_de.proofs.ElementLoops.{handed_on}
use Rattle.json5_de.proofs.Refinement.{parts}

-- ---- where the value of a name goes

-- the value of this name, as f converts it, is that of one part of what was read, which is set so
pub record Part {S C : Type 0} (step : Step S) (name : List ℕ) (f : Tree → Option C) : Type 0 where
  pub set : S → Option C → S
  pub takes : (s : S) (t : Tree) → step (set s None) name t ≡ if_some (λ c. set s (Some c)) (f t)
  pub twice : (s : S) (c : C) (t : Tree) → step (set s (Some c)) name t ≡ None

-- a member with this name changes nothing
pub record Passes {S : Type 0} (step : Step S) (name : List ℕ) : Type 0 where
  pub same : (s : S) (t : Tree) → step s name t ≡ Some s

same_name : (name : List ℕ) → bytes_eq name name ≡ true
same_name name = (bytes_eq-Decides name name).1 refl

module _ {C : Type 0} (f : Tree → Option C) (name : List ℕ) where
  pub takes_here : (t : Tree) → at_name f name None name t ≡ if_some (λ c. Some c) (f t)
  unfolding at_name
  takes_here t = rw (same_name name) refl

  pub twice_here : (c : C) (t : Tree) → at_name f name (Some c) name t ≡ None
  unfolding at_name
  twice_here c t = rw (same_name name) refl

-- it is the part itself
abbrev pub here : {C : Type 0} {f : Tree → Option C} {name : List ℕ} → Part (at_name f name) name f
here {f = f} {name = name} = record { set = λ s o. o; takes = λ s t. takes_here f name t; twice = λ s c t. twice_here f name c t }

-- a field of another name passes
pub other : {C : Type 0} (f : Tree → Option C) (name : List ℕ) {u : List ℕ} → bytes_eq u name ≡ false → Passes (at_name f name) u
unfolding at_name
other f name not_it = record { same = λ s t. rw not_it refl }

pub not_named : {C : Type 0} (f : Tree → Option C) {name u : List ℕ} → u ≢ name → Passes (at_name f name) u
not_named f {name = name} {u = u} not_it = other f name (false_from_ne_true _ (λ e. not_it ((bytes_eq-Decides u name).0 e)))

module _ {S T : Type 0} {a : Step S} {b : Step T} {name : List ℕ} where
  -- so do fields where each passes
  pub pass : Passes a name → Passes b name → Passes (both_steps a b) name
  unfolding both_steps
  pass p q = record { same = λ s t. rw (p.same s.0 t, q.same s.1 t) refl }

  module _ {C : Type 0} {f : Tree → Option C} where
    pub first_takes : (p : Part a name f) → Passes b name → (s : S × T) (t : Tree) → both_steps a b (p.set s.0 None, s.1) name t ≡ if_some (λ c. (p.set s.0 (Some c), s.1)) (f t)
    unfolding both_steps
    first_takes p q s t = rw (p.takes s.0 t, q.same s.1 t) (by (f t) (λ c. p.set s.0 (Some c)) s.1)
      where
        by : (o : Option C) (g : C → S) (r : T) → joint (if_some g o) (Some r) ≡ if_some (λ c. (g c, r)) o
        by None g r = refl
        by (Some c) g r = refl

    pub first_twice : (p : Part a name f) → Passes b name → (s : S × T) (c : C) (t : Tree) → both_steps a b (p.set s.0 (Some c), s.1) name t ≡ None
    unfolding both_steps
    first_twice p q s c t = rw (p.twice s.0 c t) refl

    pub others_take : (p : Part b name f) → Passes a name → (s : S × T) (t : Tree) → both_steps a b (s.0, p.set s.1 None) name t ≡ if_some (λ c. (s.0, p.set s.1 (Some c))) (f t)
    unfolding both_steps
    others_take p q s t = rw (q.same s.0 t, p.takes s.1 t) (by (f t) s.0 (λ c. p.set s.1 (Some c)))
      where
        by : (o : Option C) (r : S) (g : C → T) → joint (Some r) (if_some g o) ≡ if_some (λ c. (r, g c)) o
        by None r g = refl
        by (Some c) r g = refl

    pub others_twice : (p : Part b name f) → Passes a name → (s : S × T) (c : C) (t : Tree) → both_steps a b (s.0, p.set s.1 (Some c)) name t ≡ None
    unfolding both_steps
    others_twice p q s c t = rw (q.same s.0 t, p.twice s.1 c t) refl

    -- it is a part of the first
    abbrev pub in_first : Part a name f → Passes b name → Part (both_steps a b) name f
    in_first p q = record { set = λ s o. (p.set s.0 o, s.1); takes = λ s t. first_takes p q s t; twice = λ s c t. first_twice p q s c t }

    -- of the others
    abbrev pub in_others : Passes a name → Part b name f → Part (both_steps a b) name f
    in_others q p = record { set = λ s o. (s.0, p.set s.1 o); takes = λ s t. others_take p q s t; twice = λ s c t. others_twice p q s c t }

-- ---- one member

abbrev some_unit : Option (Unit {0})
some_unit = Some tt

module _ {S : Type 0} {step : Step S} {old new : MapAccessState} where
  -- a field is read; s has what was read of the others
  pub takes_field : {V C : Type 0} {content : V → C} {convert : Tree → Option C} {refuses : _} {name : List ℕ} {field next : Option V} {result : Result (Unit {0}) Error} (s : S) (part : Part step name convert) → FieldRead content convert refuses old new field next result
      → TakesMember step (part.set s (if_some content field)) (part.set s (if_some content next)) name old new result
  takes_field {V} {C} {content = content} {convert = convert} {name = name} {field = field} {next = next} {result = result} s part is = record {
    read = reads result is.read;
    left = λ u escape_free t ps r m takes left. leaves result field m t ps r takes (λ none. is.left none u escape_free t ps r left);
    live = is.live;
    shorter = is.shorter;
    failed = is.failed;
    unprompted = is.unprompted;
  }
    where
      converted : (m : S) (o : Option C) → if_some (λ c. part.set s (Some c)) o ≡ Some m → (c : C) × (o ≡ Some c) × (m ≡ part.set s (Some c))
      converted m None is = absurd (cc)
      converted m (Some c) is = (c, refl, cc is)

      filled : (field next : Option V) (v : V) (t : Tree) → field ≡ None → next ≡ Some v → convert t ≡ Some (content v) → step (part.set s (if_some content field)) name t ≡ Some (part.set s (if_some content next))
      filled field next v t none some is = rw (none, some) (part.takes s t ∙ ap (if_some (λ c. part.set s (Some c))) is)

      reads : (result : Result (Unit {0}) Error) → OnOk result (FillsField content convert old new field next)
          → OnOk result ((t : Tree) × (step (part.set s (if_some content field)) name t ≡ Some (part.set s (if_some content next))) × ((from : State) (ps : Members) (u : List ℕ) (escape_free : Bool) → MembersRead from ps (Some (u, escape_free)) old → MembersRead from (snoc_member ps u escape_free t) None new))
      reads (Ok done) (v, none, some, (t, is, on)) = (t, filled field next v t none some is, on)
      reads (Err e) fills = tt

      leaves : (result : Result (Unit {0}) Error) (o : Option V) (m : S) (t : Tree) (ps : Members) (r : List ℕ) → step (part.set s (if_some content o)) name t ≡ Some m
          → (o ≡ None → LeavesFilled content convert t ps r new next result) → LeavesTaken (part.set s (if_some content next)) m ps r new result
      leaves result (Some v) m t ps r takes left = let none : Some m ≡ None = sym takes ∙ part.twice s (content v) t in absurd (cc none)
      leaves (Ok done) None m t ps r takes left =
          let (c, is, same) = converted m (convert t) (sym (part.takes s t) ∙ takes) in
          let (v, some, rest) = left refl in
          let (equal, others) = rest in
          let one : Some c ≡ Some (content v) = sym is ∙ equal in
          (same ∙ ap (λ o. part.set s o) (one ∙ ap (if_some content) (sym some)), others)
      leaves (Err e) None m t ps r takes left = let (c, is, same) = converted m (convert t) (sym (part.takes s t) ∙ takes) in left refl c is

  -- a member that changes nothing is passed over
  pub passes_pair : {s : S} {name : List ℕ} {result : Result (Unit {0}) Error} → Passes step name → PassesMember old new result → TakesMember step s s name old new result
  passes_pair {s = s} {name = name} {result = result} passes is = record {
    read = reads result is.read;
    left = λ u escape_free t ps r m takes left. leaves result m ps r (let one : Some s ≡ Some m = sym (passes.same s t) ∙ takes in cc one) (is.left u escape_free t ps r tt refl left);
    live = is.live;
    shorter = is.shorter;
    failed = is.failed;
    unprompted = is.unprompted;
  }
    where
      reads : (result : Result (Unit {0}) Error) → OnOk result ((t : Tree) × (some_unit ≡ some_unit) × ((from : State) (ps : Members) (u : List ℕ) (escape_free : Bool) → MembersRead from ps (Some (u, escape_free)) old → MembersRead from (snoc_member ps u escape_free t) None new))
          → OnOk result ((t : Tree) × (step s name t ≡ Some s) × ((from : State) (ps : Members) (u : List ℕ) (escape_free : Bool) → MembersRead from ps (Some (u, escape_free)) old → MembersRead from (snoc_member ps u escape_free t) None new))
      reads (Ok done) (t, same, on) = (t, passes.same s t, on)
      reads (Err e) read = tt

      leaves : (result : Result (Unit {0}) Error) (m : S) (ps : Members) (r : List ℕ) → m ≡ s → LeavesTaken {S = Unit {0}} tt tt ps r new result → LeavesTaken s m ps r new result
      leaves (Ok done) m ps r same (one, others) = (same, others)
      leaves (Err e) m ps r same memory = memory

-- ---- all members

-- the first member has the name that is pending
abbrev pub BeginsAt : Option (List ℕ) → Members → Type 0
BeginsAt None ps = Unit {0}
BeginsAt (Some k) no_member = ⊥
BeginsAt (Some k) (member u escape_free t ps) = encode_utf8_all u ≡ k

-- the key that waits for its value has this name
abbrev pub StandsFor : Option (List ℕ) → Option (List ℕ × Bool) → Type 0
StandsFor None None = Unit {0}
StandsFor None (Some w) = ⊥
StandsFor (Some k) None = ⊥
StandsFor (Some k) (Some (u, escape_free)) = encode_utf8_all u ≡ k

-- of the members that make m of what was read, these are left
pub record StillLeft {S : Type 0} (step : Step S) (s m : S) (key : Option (List ℕ)) (all : Members) (r : List ℕ) (now : MapAccessState) : Type 0 where
  pub pairs : Members
  pub free : (test : Tree → Bool) → all_free test all ≡ true → all_free test pairs ≡ true
  pub are : run step s pairs ≡ Some m
  pub begins : BeginsAt key pairs
  pub left : MembersLeft pairs r now

-- a struct between two members, or after a key: s is what was read of its fields since `old`, and if the struct may have all members,
-- the others are left
pub record ReadingStruct {S : Type 0} (step : Step S) (start : S) (old : MapAccessState) (s : S) (key : Option (List ℕ)) (now : MapAccessState) : Type 0 where
  pub live : old.at.reader.failed ≡ false → now.at.reader.failed ≡ false
  pub pairs : Members
  pub are : run step start pairs ≡ Some s
  pub waits : Option (List ℕ × Bool)
  pub named : StandsFor key waits
  pub read : (from : State) → MembersRead from no_member None old → MembersRead from pairs waits now
  pub left : (ps : Members) (r : List ℕ) (m : S) → run step start ps ≡ Some m → MembersLeft ps r old → StillLeft step s m key ps r now

abbrev or_text : List ℕ → Option (List ℕ) → List ℕ
or_text other None = other
or_text other (Some k) = k

-- one member more
run_snoc : {S : Type 0} (step : Step S) (s n m : S) (ps : Members) (u : List ℕ) (escape_free : Bool) (t : Tree) → run step s ps ≡ Some n → step n (encode_utf8_all u) t ≡ Some m → run step s (snoc_member ps u escape_free t) ≡ Some m
run_snoc step s n m no_member u escape_free t is next = let same : s ≡ n = cc in rw (same, next) refl
run_snoc {S} step s n m (member v allocation_free w ps) u escape_free t is next = by (step s (encode_utf8_all v) w) is (λ x rest. run_snoc step x n m ps u escape_free t rest next)
  where
    by : (o : Option S) → if_more (λ x. run step x ps) o ≡ Some n → ((x : S) → run step x ps ≡ Some n → run step x (snoc_member ps u escape_free t) ≡ Some m) → if_more (λ x. run step x (snoc_member ps u escape_free t)) o ≡ Some m
    by None is others = absurd (cc)
    by (Some x) is others = others x is

none_left : {S X : Type 0} (step : Step S) (content : X → List ℕ) (s z : S) (new : MapAccessState) (ps : Members) (r : List ℕ) → run step s ps ≡ Some z → LeavesAValue content every_text ps r new (Ok None) → (z ≡ s) × MembersLeft no_member r new
none_left step content s z new no_member r are left = (cc are, left)
none_left step content s z new (member u escape_free t ps) r are left = absurd left

-- a call that returned a key leaves a reader that hasn't failed
pub live_after_key : {X C : Type 0} (content : X → C) (keys : KeyConversion C) (old new : MapAccessState) (k : X) → GivesMemberKey content keys old new (Some k) → old.at.reader.failed ≡ false → new.at.reader.failed ≡ false
live_after_key content keys old new k (u, escape_free, took, is, comma_due, waits) live = ap (λ (s : State). s.failed) took.rest ∙ live

pub live_at_brace : {X C : Type 0} (content : X → C) (keys : KeyConversion C) (old new : MapAccessState) → GivesMemberKey content keys old new None → new.at.reader.failed ≡ false
live_at_brace content keys old new (at, comma_due, none) = ap (λ (s : State). s.failed) at.rest ∙ at.live

-- if no key is returned, the brace is next
pub brace_next : {X C : Type 0} (content : X → C) (keys : KeyConversion C) (old new : MapAccessState) → GivesMemberKey content keys old new None → (x : List ℕ) × (new.at.reader.unread ≡ right_brace ∷ x)
brace_next content keys old new (at, comma_due, none) = let (r, close, next) = at.close in (r, next)

-- the parts of a test of all members
free_key : (test : Tree → Bool) (u : List ℕ) (escape_free : Bool) (t : Tree) (ps : Members) → all_free test (member u escape_free t ps) ≡ true → escape_free ≡ true
free_key test u true t ps spare = refl
free_key test u false t ps spare = absurd (false≢true spare)

free_value : (test : Tree → Bool) (u : List ℕ) (escape_free : Bool) (t : Tree) (ps : Members) → all_free test (member u escape_free t ps) ≡ true → test t ≡ true
free_value test u true t ps spare = (and_parts (test t) (all_free test ps) spare).0
free_value test u false t ps spare = absurd (false≢true spare)

free_others : (test : Tree → Bool) (u : List ℕ) (escape_free : Bool) (t : Tree) (ps : Members) → all_free test (member u escape_free t ps) ≡ true → all_free test ps ≡ true
free_others test u true t ps spare = (and_parts (test t) (all_free test ps) spare).1
free_others test u false t ps spare = absurd (false≢true spare)

-- no member is read yet
pub no_pairs : {S : Type 0} (step : Step S) (s : S) (old : MapAccessState) → ReadingStruct step s old s None old
no_pairs step s old = record { live = λ l. l; pairs = no_member; are = refl; waits = None; named = tt; read = λ from p. p; left = λ ps r m is left. record { pairs = ps; free = λ test all. all; are = is; begins = tt; left = left } }

module _ {S : Type 0} {step : Step S} {start : S} {old : MapAccessState} where
  at_rest : {s : S} {now : MapAccessState} (m : ReadingStruct step start old s None now) (from : State) → MembersRead from no_member None old → MembersRead from m.pairs None now
  at_rest {now = now} m from begun = by m.waits m.named (m.read from begun)
    where
      by : (waits : Option (List ℕ × Bool)) → StandsFor None waits → MembersRead from m.pairs waits now → MembersRead from m.pairs None now
      by None named read = read
      by (Some w) named read = absurd named

  -- a key was read
  pub reads_name : {X : Type 0} (content : X → List ℕ) {s : S} {at new : MapAccessState} (k : X) → ReadingStruct step start old s None at → (at.at.reader.failed ≡ false → new.at.reader.failed ≡ false) → ReadsAKey content every_text at new (Some k)
      → ((ps : Members) (r : List ℕ) → MembersLeft ps r at → LeavesAValue content every_text ps r new (Ok (Some k))) → ReadingStruct step start old s (Some (content k)) new
  reads_name content {s = s} {new = new} k m live (u, escape_free, is, on) fewer = record {
    live = λ l. live (m.live l);
    pairs = m.pairs;
    are = m.are;
    waits = Some (u, escape_free);
    named = ap (or_text (content k)) is;
    read = λ from begun. on from m.pairs (at_rest m from begun);
    left = λ ps r z are left. let w = m.left ps r z are left in by z ps w.pairs r w.free w.are (fewer w.pairs r w.left);
  }
    where
      by : (z : S) (all ps : Members) (r : List ℕ) → ((test : Tree → Bool) → all_free test all ≡ true → all_free test ps ≡ true) → run step s ps ≡ Some z → LeavesAValue content every_text ps r new (Ok (Some k)) → StillLeft step s z (Some (content k)) all r new
      by z all no_member r free are left = absurd left
      by z all (member u escape_free t ps) r free are (is, left) = record { pairs = member u escape_free t ps; free = free; are = are; begins = ap (or_text (content k)) is; left = left }

  -- and its value
  pub takes_pair : {name : List ℕ} {s n : S} {at new : MapAccessState} → ReadingStruct step start old s (Some name) at → TakesMember step s n name at new (Ok tt) → ReadingStruct step start old n None new
  takes_pair {name = name} {s = s} {n = n} {at = at} {new = new} m one = let (t, takes, on) = one.read in of t takes on m.waits m.named m.read
    where
      by : (z : S) (all ps : Members) (r : List ℕ) → ((test : Tree → Bool) → all_free test all ≡ true → all_free test ps ≡ true) → run step s ps ≡ Some z → BeginsAt (Some name) ps → MembersLeft ps r at → StillLeft step n z None all r new
      by z all no_member r free are named left = absurd named
      by z all (member u escape_free t ps) r free are named left =
          let (x, is, rest) = parts (λ x. run step x ps) (step s (encode_utf8_all u) t) z are in
          let (same, others) = one.left u escape_free t ps r x (sym (ap (λ w. step s w t) named) ∙ is) left in
          record { pairs = ps; free = λ test spare. free_others test u escape_free t ps (free test spare); are = ap (λ y. run step y ps) (sym same) ∙ rest; begins = tt; left = others }

      of : (t : Tree) → step s name t ≡ Some n → ((from : State) (ps : Members) (u : List ℕ) (escape_free : Bool) → MembersRead from ps (Some (u, escape_free)) at → MembersRead from (snoc_member ps u escape_free t) None new)
          → (waits : Option (List ℕ × Bool)) → StandsFor (Some name) waits → ((from : State) → MembersRead from no_member None old → MembersRead from m.pairs waits at) → ReadingStruct step start old n None new
      of t takes on None named read = absurd named
      of t takes on (Some (u, escape_free)) named read = record {
        live = λ l. one.live;
        pairs = snoc_member m.pairs u escape_free t;
        are = run_snoc step start s n m.pairs u escape_free t m.are (ap (λ w. step s w t) named ∙ takes);
        waits = None;
        named = tt;
        read = λ from begun. on from m.pairs u escape_free (read from begun);
        left = λ ps r z are left. let w = m.left ps r z are left in by z ps w.pairs r w.free w.are w.begins w.left;
      }

  -- no key was returned: all members were read
  pub all_read : {X : Type 0} (content : X → List ℕ) {s : S} {at new : MapAccessState} → ReadingStruct step start old s None at → new.at.reader.failed ≡ false → (x : List ℕ) × (new.at.reader.unread ≡ right_brace ∷ x) → ReadsAKey content every_text at new None
      → ((ps : Members) (r : List ℕ) → MembersLeft ps r at → LeavesAValue content every_text ps r new (Ok None)) → ReadsMembers step start s old new (Ok tt)
  all_read content {s = s} {new = new} m live brace on fewer = record {
    at_brace = brace;
    read = (m.pairs, m.are, λ from begun. on from m.pairs (at_rest m from begun));
    left = λ ps r z are left. let w = m.left ps r z are left in none_left step content s z new w.pairs r w.are (fewer w.pairs r w.left);
    live = live;
    failed = tt;
    unprompted = tt;
  }

  module _ {n s : S} {at new : MapAccessState} (e : Error) (result : Result (Unit {0}) Error) where
    refuses_as : {key : Option (List ℕ)} → IsErrAnd result (λ y. y ≡ e) → ReadingStruct step start old s key at → new.at.reader.failed ≡ true → (at.at.reader.failed ≡ false → IsUnprompted e)
        → ((ps : Members) (r : List ℕ) (z : S) → run step s ps ≡ Some z → BeginsAt key ps → MembersLeft ps r at → IsOutOfMemory e) → ReadsMembers step start n old new result
    refuses_as is_err m failed unprompted memory = handed_on (λ r. ReadsMembers step start n old new r) e result is_err (record {
      read = tt;
      at_brace = tt;
      left = λ ps r z are left. let w = m.left ps r z are left in memory w.pairs r z w.are w.begins w.left;
      live = tt;
      failed = failed;
      unprompted = λ l. unprompted (m.live l);
    })

    -- a key was refused
    pub key_refuses : {X : Type 0} (content : X → List ℕ) → IsErrAnd result (λ y. y ≡ e) → ReadingStruct step start old s None at → new.at.reader.failed ≡ true → (at.at.reader.failed ≡ false → IsUnprompted e)
        → ((ps : Members) (r : List ℕ) → MembersLeft ps r at → LeavesAValue content every_text ps r new (Err e)) → ReadsMembers step start n old new result
    key_refuses content is_err m failed unprompted fewer = refuses_as is_err m failed unprompted (λ ps r z are begins left. by ps r (fewer ps r left))
      where
        by : (ps : Members) (r : List ℕ) → LeavesAValue content every_text ps r new (Err e) → IsOutOfMemory e
        by no_member r left = absurd left
        by (member u escape_free t ps) r left = left (encode_utf8_all u) refl

    -- a value was refused
    pub pair_refuses : {name : List ℕ} {x : S} → IsErrAnd result (λ y. y ≡ e) → ReadingStruct step start old s (Some name) at → TakesMember step s x name at new (Err e) → ReadsMembers step start n old new result
    pair_refuses {name = name} is_err m one = refuses_as is_err m one.failed one.unprompted by
      where
        by : (ps : Members) (r : List ℕ) (z : S) → run step s ps ≡ Some z → BeginsAt (Some name) ps → MembersLeft ps r at → IsOutOfMemory e
        by no_member r z are named left = absurd named
        by (member u escape_free t ps) r z are named left =
            let (y, is, rest) = parts (λ y. run step y ps) (step s (encode_utf8_all u) t) z are in
            one.left u escape_free t ps r y (sym (ap (λ w. step s w t) named) ∙ is) left

  module _ {s : S} {at : MapAccessState} (e : Error) (result : Result (Unit {0}) Error) where
    -- if a key is refused, or a value, then not all that is left is read without memory
    pub key_not_free : (test : Tree → Bool) {X : Type 0} {new : MapAccessState} (content : X → List ℕ) → IsErrAnd result (λ y. y ≡ e) → ReadingStruct step start old s None at → ReadsKeyFree {V = X} at (Err e)
        → ((ps : Members) (r : List ℕ) → MembersLeft ps r at → LeavesAValue content every_text ps r new (Err e)) → ReadsFree test step start old result
    key_not_free test {new = new} content is_err m free fewer = handed_on (λ r. ReadsFree test step start old r) e result is_err (λ ps r z are left spare. let w = m.left ps r z are left in by w.pairs r (w.free test spare) w.left (fewer w.pairs r w.left))
      where
        by : (ps : Members) (r : List ℕ) → all_free test ps ≡ true → MembersLeft ps r at → LeavesAValue content every_text ps r new (Err e) → IsOk {T = Unit {0}} {E = Error} (Err e)
        by no_member r spare left none = absurd none
        by (member u escape_free t ps) r spare left none = free u t ps r (subst (λ p. MembersLeft (member u p t ps) r at) (free_key test u escape_free t ps spare) left)

    pub pair_not_free : (test : Tree → Bool) {name : List ℕ} → IsErrAnd result (λ y. y ≡ e) → ReadingStruct step start old s (Some name) at → TakesFree {V = Unit {0}} test step s name at (Err e) → ReadsFree test step start old result
    pair_not_free test {name = name} is_err m free = handed_on (λ r. ReadsFree test step start old r) e result is_err (λ ps r z are left spare. let w = m.left ps r z are left in by w.pairs r z (w.free test spare) w.are w.begins w.left)
      where
        by : (ps : Members) (r : List ℕ) (z : S) → all_free test ps ≡ true → run step s ps ≡ Some z → BeginsAt (Some name) ps → MembersLeft ps r at → IsOk {T = Unit {0}} {E = Error} (Err e)
        by no_member r z spare are named left = absurd named
        by (member u escape_free t ps) r z spare are named left =
            let (y, is, rest) = parts (λ y. run step y ps) (step s (encode_utf8_all u) t) z are in
            free u escape_free t ps r y (sym (ap (λ w. step s w t) named) ∙ is) left (free_value test u escape_free t ps spare)

-- a field that is there leaves what was read
pub still : {S : Type 0} {step : Step S} {s n : S} {old now new : MapAccessState} {result : Result (Unit {0}) Error} → new ≡ now → ReadsMembers step s n old now result → ReadsMembers step s n old new result
still {step = step} {s = s} {n = n} {old = old} {result = result} same reads = subst (λ w. ReadsMembers step s n old w result) (sym same) reads

-- ---- a struct as a whole

-- a field that is missing has its default's content
pub or_default : {V C : Type 0} (content : V → C) (field : Option V) (default : V) → or_value (content default) (if_some content field) ≡ content (unwrap_or field default)
or_default content None default = refl
or_default content (Some v) default = refl

-- no object was opened
pub unopened_completes : {A U D : Type 0} {Held : A → Type 0} {state_of : A → MapAccessState} {old : State} (convert : Members → Option D) (e : Error) (result : Result U Error) → IsErrAnd result (λ y. y ≡ e) → OpensMap Held state_of old (Err e) → Completes (object_of convert) old result
unopened_completes {old = old} convert e result is_err opens = handed_on (λ r. Completes (object_of convert) old r) e result is_err (record {
  memory = λ t r d live reads shallow is.
      let (ps, same, converts) = object_only convert t d is in
      absurd (opens.left ps r live (subst (λ u. Reads old.unread u r) same reads) (subst (λ u. old.level + depth u ≤ max_depth) same shallow));
})

module _ {S D : Type 0} (plan : Plan S D) {I : Type 0} {Held : MapAccess I → Type 0} {old : State} (map : MapAccess I) (opens : OpensMap Held map_state_of old (Ok map)) where
  opened_live : (map_state_of map).at.reader.failed ≡ false
  opened_live = ap (λ (s : State). s.failed) opens.read.rest ∙ opens.read.live

  -- its brace was taken: what was read is the struct
  pub struct_read : {n : S} {now : MapAccessState} {d : D} {last end : State} → ReadsMembers plan.step plan.start n (map_state_of map) now (Ok tt) → end ≡ last → ((from : State) (ps : Members) → MembersRead from ps None now → TookValue from (object ps) last) → plan.build n ≡ Some d
      → (t : Tree) × TookValue old t end × (object_of plan.convert t ≡ Some d)
  struct_read reads same ends is =
      let (ps, are, on) = reads.read in
      (object ps, subst (λ e. TookValue old (object ps) e) (sym same) (ends old ps (on old opens.read)), plan.says ps ∙ ap (if_more plan.build) are ∙ is)

  -- the refusal of its members isn't `Failed`
  pub fields_unprompted : {n : S} {now : MapAccessState} {U : Type 0} (e : Error) (result : Result U Error) → IsErrAnd result (λ y. y ≡ e) → ReadsMembers plan.step plan.start n (map_state_of map) now (Err e) → Unprompted old result
  fields_unprompted e result is_err reads = handed_on (λ r. Unprompted old r) e result is_err (λ live. reads.unprompted opened_live)

  module _ {U : Type 0} (e : Error) (result : Result U Error) where
    completes_as : IsErrAnd result (λ y. y ≡ e) → ((ps : Members) (r : List ℕ) (m : S) (d : D) → run plan.step plan.start ps ≡ Some m → plan.build m ≡ Some d → MembersLeft ps r (map_state_of map) → IsOutOfMemory e) → Completes (object_of plan.convert) old result
    completes_as is_err k = handed_on (λ r. Completes (object_of plan.convert) old r) e result is_err (record {
      memory = λ t r d live reads shallow is.
          let (ps, same, converts) = object_only plan.convert t d is in
          let (m, are, built) = parts plan.build (run plan.step plan.start ps) d (sym (plan.says ps) ∙ converts) in
          k ps r m d are built (opens.left ps r live (subst (λ u. Reads old.unread u r) same reads) (subst (λ u. old.level + depth u ≤ max_depth) same shallow));
    })

    -- its members were refused
    pub fields_complete : {n : S} {now : MapAccessState} → IsErrAnd result (λ y. y ≡ e) → ReadsMembers plan.step plan.start n (map_state_of map) now (Err e) → Completes (object_of plan.convert) old result
    fields_complete is_err reads = completes_as is_err (λ ps r m d are built left. reads.left ps r m are left)

    -- all its members were read, and they make no struct
    pub missing_completes : {n : S} {now : MapAccessState} → IsErrAnd result (λ y. y ≡ e) → ReadsMembers plan.step plan.start n (map_state_of map) now (Ok tt) → plan.build n ≡ None → Completes (object_of plan.convert) old result
    missing_completes is_err reads none = completes_as is_err (λ ps r m d are built left.
        let (same, rest) = reads.left ps r m are left in
        let both : Some d ≡ None = sym built ∙ ap plan.build same ∙ none in
        absurd (cc both))

    -- its brace was refused
    pub end_completes : {n : S} {now : MapAccessState} → IsErrAnd result (λ y. y ≡ e) → ReadsMembers plan.step plan.start n (map_state_of map) now (Ok tt) → ((r : List ℕ) → MembersLeft no_member r now → IsOk {T = Unit {0}} {E = Error} (Err e)) → Completes (object_of plan.convert) old result
    end_completes is_err reads ends = completes_as is_err (λ ps r m d are built left. let (same, rest) = reads.left ps r m are left in absurd (false≢true (ends r rest)))

    -- ---- the same where all that is read takes no memory

    free_as : (test : Tree → Bool) → IsErrAnd result (λ y. y ≡ e) → ((ps : Members) (r : List ℕ) (m : S) (d : D) → run plan.step plan.start ps ≡ Some m → plan.build m ≡ Some d → MembersLeft ps r (map_state_of map) → all_free test ps ≡ true → ⊥)
        → CompletesFree (object_free test) (object_of plan.convert) old result
    free_as test is_err k = handed_on (λ r. CompletesFree (object_free test) (object_of plan.convert) old r) e result is_err (λ t r d live reads shallow is spare.
        let (ps, same, converts) = object_only plan.convert t d is in
        let (m, are, built) = parts plan.build (run plan.step plan.start ps) d (sym (plan.says ps) ∙ converts) in
        absurd (k ps r m d are built (opens.left ps r live (subst (λ u. Reads old.unread u r) same reads) (subst (λ u. old.level + depth u ≤ max_depth) same shallow)) (subst (λ u. object_free test u ≡ true) same spare)))

    -- its members were refused
    pub fields_free : (test : Tree → Bool) → IsErrAnd result (λ y. y ≡ e) → ReadsFree {V = Unit {0}} test plan.step plan.start (map_state_of map) (Err e) → CompletesFree (object_free test) (object_of plan.convert) old result
    fields_free test is_err free = free_as test is_err (λ ps r m d are built left spare. false≢true (free ps r m are left spare))

    -- its brace was refused
    pub end_free : (test : Tree → Bool) {n : S} {now : MapAccessState} → IsErrAnd result (λ y. y ≡ e) → ReadsMembers plan.step plan.start n (map_state_of map) now (Ok tt) → ((r : List ℕ) → MembersLeft no_member r now → IsOk {T = Unit {0}} {E = Error} (Err e)) → CompletesFree (object_free test) (object_of plan.convert) old result
    end_free test is_err reads ends = free_as test is_err (λ ps r m d are built left spare. let (same, rest) = reads.left ps r m are left in false≢true (ends r rest))
