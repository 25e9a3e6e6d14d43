-- A struct by its fields, one plan: what it takes of an object, and what each member changes of what was read of it.
-- A promise rests on this.
use Rattle.std.proofs.Common.{◌≡◌, ℕ, Bool, true, false, List, [], ◌∷◌, refl, sym, ap, ◌∙◌, Option, Some, None}
use Rattle.std.specs.Prelude.{if◌then◌else◌, ◌&&◌, ◌<◌, length, Result, Ok, Err, OnOk, IsOk}
use Rattle.std.specs.Str.{bytes_eq, encode_utf8_all}
use Rattle.json5_grammar.specs.Language.Characters.{right_brace}
use Rattle.json5_grammar.specs.Language.Trees.{Tree, Trees, Members, no_more, more, no_member, member, object}
use Rattle.json5_grammar.specs.Model.Collections.{joint, snoc_member}
use Rattle.json5_types.specs.declared.error.Error.{Error}
use Rattle.json5_tokens.specs.Cursor.{IsOutOfMemory}
use Rattle.json5_de.specs.State.{State, FailsIfErr}
use Rattle.json5_de.specs.ConvertLists.{if_some}
use Rattle.json5_de.specs.DeserializeLaw.{Unprompted}
use Rattle.json5_de.specs.Refinement.{if_more}
use Rattle.json5_de.specs.Objects.{MapAccessState, MembersRead, MembersLeft}
use Rattle.json5_de.specs.Fields.{values_named, at_most_one, or_value}
use Rattle.json5_de.specs.Fields as spec

-- how a member with this name changes what was read of the fields; None if the struct may not have the member
abbrev pub Step : Type 0 → Type 0
Step S = S → List ℕ → Tree → Option S

abbrev pub run : {S : Type 0} → Step S → S → Members → Option S
run step s no_member = Some s
run step s (member u escape_free t ps) = if_more (λ n. run step n ps) (step s (encode_utf8_all u) t)

-- the fields of a struct: how members change them, what they are before the first member, what they make at the end, and what all members make
pub record Plan (S D : Type 0) : Type 0 where
  pub step : Step S
  pub start : S
  pub build : S → Option D
  pub convert : Members → Option D
  pub says : (ps : Members) → convert ps ≡ if_more build (run step start ps)

-- ---- one field

module _ {C : Type 0} (f : Tree → Option C) where
  abbrev pub put : Option C → Tree → Option (Option C)
  put None t = if_some Some (f t)
  put (Some c) t = None

  unfoldable pub at_name : List ℕ → Step (Option C)
  at_name name o u t = if bytes_eq u name then put o t else Some o

  abbrev none_more : C → Trees → Option (Option C)
  none_more c no_more = Some (Some c)
  none_more c (more t ts) = None

  filled : (name : List ℕ) (c : C) (ps : Members) → run (at_name name) (Some c) ps ≡ none_more c (values_named name ps)
  unfolding at_name
  filled name c no_member = refl
  filled name c (member u escape_free t ps) = by (bytes_eq (encode_utf8_all u) name) (filled name c ps)
    where
      by : (b : Bool) → run (at_name name) (Some c) ps ≡ none_more c (values_named name ps)
          → if_more (λ n. run (at_name name) n ps) (if b then None else Some (Some c)) ≡ none_more c (if b then more t (values_named name ps) else values_named name ps)
      by true rest = refl
      by false rest = rest

  first : (t : Tree) (ts : Trees) (g : Option C → Option (Option C)) → ((c : C) → g (Some c) ≡ none_more c ts) → at_most_one f (more t ts) ≡ if_more g (if_some Some (f t))
  first t no_more g is = by (f t)
    where
      by : (o : Option C) → if_some Some o ≡ if_more g (if_some Some o)
      by None = refl
      by (Some c) = sym (is c)
  first t (more v vs) g is = by (f t)
    where
      by : (o : Option C) → None ≡ if_more g (if_some Some o)
      by None = refl
      by (Some c) = sym (is c)

  pub unfilled : (name : List ℕ) (ps : Members) → at_most_one f (values_named name ps) ≡ run (at_name name) None ps
  unfolding at_name
  unfilled name no_member = refl
  unfilled name (member u escape_free t ps) = by (bytes_eq (encode_utf8_all u) name) (unfilled name ps)
    where
      by : (b : Bool) → at_most_one f (values_named name ps) ≡ run (at_name name) None ps
          → at_most_one f (if b then more t (values_named name ps) else values_named name ps) ≡ if_more (λ n. run (at_name name) n ps) (if b then if_some Some (f t) else Some None)
      by true rest = first t (values_named name ps) (λ n. run (at_name name) n ps) (λ c. filled name c ps)
      by false rest = rest

pub made : {A B : Type 0} (g : A → B) (o : Option A) → if_some g o ≡ if_more (λ a. Some (g a)) o
made g None = refl
made g (Some a) = refl

pub whole : {A : Type 0} (o : Option A) → o ≡ if_more (λ a. Some a) o
whole None = refl
whole (Some a) = refl

-- a field that may be missing
abbrev pub plan_optional : {C : Type 0} → List ℕ → (Tree → Option C) → Plan (Option C) (Option C)
plan_optional name f = record { step = at_name f name; start = None; build = λ o. Some o; convert = spec.optional name f; says = λ ps. unfilled f name ps ∙ whole (run (at_name f name) None ps) }

-- one that has to be there
abbrev pub plan_required : {C : Type 0} → List ℕ → (Tree → Option C) → Plan (Option C) C
plan_required name f = record { step = at_name f name; start = None; build = λ o. o; convert = spec.required name f; says = λ ps. ap (if_more (λ o. o)) (unfilled f name ps) }

-- one that has a default
abbrev pub plan_with_default : {C : Type 0} → C → List ℕ → (Tree → Option C) → Plan (Option C) C
plan_with_default c name f = record { step = at_name f name; start = None; build = λ o. Some (or_value c o); convert = spec.with_default c name f; says = λ ps. ap (if_some (or_value c)) (unfilled f name ps) ∙ made (or_value c) (run (at_name f name) None ps) }

-- ---- a field, and others

joint_none : {A B : Type 0} (o : Option A) → joint {V = B} o None ≡ None
joint_none None = refl
joint_none (Some a) = refl

unfoldable pub both_steps : {S T : Type 0} → Step S → Step T → Step (S × T)
both_steps a b s u t = joint (a s.0 u t) (b s.1 u t)

pub run_both : {S T : Type 0} (a : Step S) (b : Step T) (s : S) (t : T) (ps : Members) → run (both_steps a b) (s, t) ps ≡ joint (run a s ps) (run b t ps)
unfolding both_steps
run_both a b s t no_member = refl
run_both {S} {T} a b s t (member u escape_free v ps) = by (a s (encode_utf8_all u) v) (b t (encode_utf8_all u) v) (λ p q. run_both a b p q ps)
  where
    by : (x : Option S) (y : Option T) → ((p : S) (q : T) → run (both_steps a b) (p, q) ps ≡ joint (run a p ps) (run b q ps)) → if_more (λ n. run (both_steps a b) n ps) (joint x y) ≡ joint (if_more (λ n. run a n ps) x) (if_more (λ n. run b n ps) y)
    by None y others = refl
    by (Some p) None others = sym (joint_none (run a p ps))
    by (Some p) (Some q) others = others p q

pub built_both : {S T A B : Type 0} (f : S → Option A) (g : T → Option B) (x : Option S) (y : Option T) → joint (if_more f x) (if_more g y) ≡ if_more (λ s. joint (f s.0) (g s.1)) (joint x y)
built_both f g None y = refl
built_both f g (Some p) None = joint_none (f p)
built_both f g (Some p) (Some q) = refl

abbrev pub plan_and : {S T A B : Type 0} → Plan S A → Plan T B → Plan (S × T) (A × B)
plan_and a b = record {
  step = both_steps a.step b.step;
  start = (a.start, b.start);
  build = λ s. joint (a.build s.0) (b.build s.1);
  convert = spec.and_field a.convert b.convert;
  says = λ ps. rw (a.says ps, b.says ps) (built_both a.build b.build (run a.step a.start ps) (run b.step b.start ps) ∙ sym (ap (if_more _) (run_both a.step b.step a.start b.start ps)));
}

-- ---- what the calls mean that read a struct's members

-- if a member, or members, make m of what was read, they are read, unless memory runs out, and these members are left
abbrev pub LeavesTaken : {S : Type 0} → S → S → Members → List ℕ → MapAccessState → Result (Unit {0}) Error → Type 0
LeavesTaken n m ps r new (Ok done) = (m ≡ n) × MembersLeft ps r new
LeavesTaken n m ps r new (Err e) = IsOutOfMemory e

-- the value of the key that was read, which has this name: s is what was read of the fields before, n after it
pub record TakesMember {S : Type 0} (step : Step S) (s n : S) (name : List ℕ) (old new : MapAccessState) (result : Result (Unit {0}) Error) : Type 0 where
  pub read : OnOk result ((t : Tree) × (step s name t ≡ Some n) × ((from : State) (ps : Members) (u : List ℕ) (escape_free : Bool) → MembersRead from ps (Some (u, escape_free)) old → MembersRead from (snoc_member ps u escape_free t) None new))
  pub left : (u : List ℕ) (escape_free : Bool) (t : Tree) (ps : Members) (r : List ℕ) (m : S) → step s name t ≡ Some m → MembersLeft (member u escape_free t ps) r old → LeavesTaken n m ps r new result
  pub live : OnOk result (new.at.reader.failed ≡ false)
  pub shorter : OnOk result (length new.at.reader.unread < length old.at.reader.unread)
  pub failed : FailsIfErr new.at.reader result
  pub unprompted : Unprompted old.at.reader result

-- any value of a key that was read, of which nothing is kept
abbrev pub PassesMember : MapAccessState → MapAccessState → Result (Unit {0}) Error → Type 0
PassesMember old new result = TakesMember {S = Unit {0}} (λ s name t. Some s) tt tt [] old new result

-- all members that are left, from the first, up to the closing brace: s is what was read of the fields before, n after them
pub record ReadsMembers {S : Type 0} (step : Step S) (s n : S) (old new : MapAccessState) (result : Result (Unit {0}) Error) : Type 0 where
  pub read : OnOk result ((ps : Members) × (run step s ps ≡ Some n) × ((from : State) → MembersRead from no_member None old → MembersRead from ps None new))
  pub left : (ps : Members) (r : List ℕ) (m : S) → run step s ps ≡ Some m → MembersLeft ps r old → LeavesTaken n m no_member r new result
  pub live : OnOk result (new.at.reader.failed ≡ false)
  pub failed : FailsIfErr new.at.reader result
  pub unprompted : Unprompted old.at.reader result
  pub at_brace : OnOk result ((r : List ℕ) × (new.at.reader.unread ≡ right_brace ∷ r))

-- ---- which structs are read without memory

-- no key has an escape, and each value passes this test
abbrev pub all_free : (Tree → Bool) → Members → Bool
all_free free no_member = true
all_free free (member u escape_free t ps) = escape_free && (free t && all_free free ps)

-- the value of the key that was read passes this test and may stand there, and is read without memory
abbrev pub TakesFree : {S V : Type 0} → (Tree → Bool) → Step S → S → List ℕ → MapAccessState → Result V Error → Type 0
TakesFree {S} free step s name old result =
    (u : List ℕ) (escape_free : Bool) (t : Tree) (ps : Members) (r : List ℕ) (m : S) → step s name t ≡ Some m → MembersLeft (member u escape_free t ps) r old → free t ≡ true → IsOk result

-- members that are left pass it and make a struct, and are read without memory
abbrev pub ReadsFree : {S V : Type 0} → (Tree → Bool) → Step S → S → MapAccessState → Result V Error → Type 0
ReadsFree {S} free step s old result = (ps : Members) (r : List ℕ) (m : S) → run step s ps ≡ Some m → MembersLeft ps r old → all_free free ps ≡ true → IsOk result

-- an object of such members
abbrev pub object_free : (Tree → Bool) → Tree → Bool
object_free free (object ps) = all_free free ps
object_free free _ = false
