-- A struct by a description of its fields: which names it has, what it takes of an object, and what each member changes.
-- A promise rests on this.
use Rattle.std.proofs.Common.{◌≡◌, ℕ, Bool, true, false, List, [], ◌∷◌, ◌++◌, refl, sym, ap, ◌∙◌, subst, Option, Some, None}
use Rattle.std.proofs.lemmas.Slice.Eq.{bytes_eq-Decides}
use Rattle.std.specs.Prelude.{if◌then◌else◌}
use Rattle.std.specs.Str.{bytes_eq, encode_utf8_all}
use Rattle.json5_grammar.specs.Language.Trees.{Tree, Members, no_member, member}
use Rattle.json5_grammar.specs.Model.Collections.{joint}
use Rattle.json5_de.specs.ConvertLists.{if_some}
use Rattle.json5_de.specs.Refinement.{if_more}
use Rattle.json5_de.specs.Fields.{required, optional, with_default, and_field}
use Rattle.json5_de.specs.Plans.{Plan, Step, run, put, at_name, plan_required, plan_optional, plan_with_default, both_steps, run_both, built_both}

-- it is one of the names
abbrev pub has_name : List (List ℕ) → List ℕ → Bool
has_name [] u = false
has_name (n ∷ ns) u = if bytes_eq u n then true else has_name ns u

-- no two names are equal
abbrev pub all_differ : List (List ℕ) → Bool
all_differ [] = true
all_differ (n ∷ ns) = if has_name ns n then false else all_differ ns

-- the fields of a struct: their names, how members change them, what they are before the first member, what they make at the end, and what all
-- members make
pub record Layout (S D : Type 0) : Type 0 where
  pub names : List (List ℕ)
  pub step : Step S
  pub start : S
  pub build : S → Option D
  pub convert : Members → Option D
  pub passes : (s : S) (u : List ℕ) (t : Tree) → has_name names u ≡ false → step s u t ≡ Some s
  pub says : all_differ names ≡ true → (ps : Members) → convert ps ≡ if_more build (run step start ps)

-- ---- one field

module _ {C : Type 0} (name : List ℕ) (f : Tree → Option C) where
  pub field_passes : (s : Option C) (u : List ℕ) (t : Tree) → has_name (name ∷ []) u ≡ false → at_name f name s u t ≡ Some s
  unfolding at_name
  field_passes s u t not = by (bytes_eq u name) not
    where
      by : (b : Bool) → (if b then true else false) ≡ false → (if b then put f s t else Some s) ≡ Some s
      by true not = absurd (cc)
      by false not = refl

-- what a field makes, and what all members make of it
abbrev pub one_field : {C D : Type 0} (name : List ℕ) (f : Tree → Option C) (build : Option C → Option D) (convert : Members → Option D) → ((ps : Members) → convert ps ≡ if_more build (run (at_name f name) None ps)) → Layout (Option C) D
one_field name f build convert says = record { names = name ∷ []; step = at_name f name; start = None; build = build; convert = convert; passes = field_passes name f; says = λ differ ps. says ps }

-- a field that has to be there
abbrev pub required_field : {C : Type 0} → List ℕ → (Tree → Option C) → Layout (Option C) C
required_field name f = one_field name f (plan_required name f).build (required name f) (plan_required name f).says

-- one that may be missing
abbrev pub optional_field : {C : Type 0} → List ℕ → (Tree → Option C) → Layout (Option C) (Option C)
optional_field name f = one_field name f (plan_optional name f).build (optional name f) (plan_optional name f).says

-- one whose content is c if it is missing
abbrev pub field_or : {C : Type 0} → C → List ℕ → (Tree → Option C) → Layout (Option C) C
field_or c name f = one_field name f (plan_with_default c name f).build (with_default c name f) (plan_with_default c name f).says

-- ---- a field, and others

pub either_name : (ns ms : List (List ℕ)) (u : List ℕ) → has_name (ns ++ ms) u ≡ (if has_name ns u then true else has_name ms u)
either_name [] ms u = refl
either_name (n ∷ ns) ms u = by (bytes_eq u n) (either_name ns ms u)
  where
    by : (b : Bool) → has_name (ns ++ ms) u ≡ (if has_name ns u then true else has_name ms u) → (if b then true else has_name (ns ++ ms) u) ≡ (if (if b then true else has_name ns u) then true else has_name ms u)
    by true rest = refl
    by false rest = rest

pub named_first : (ns ms : List (List ℕ)) (u : List ℕ) → has_name ns u ≡ true → has_name (ns ++ ms) u ≡ true
named_first ns ms u named = either_name ns ms u ∙ rw named refl

pub named_second : (ns ms : List (List ℕ)) (u : List ℕ) → has_name ms u ≡ true → has_name (ns ++ ms) u ≡ true
named_second ns ms u named = either_name ns ms u ∙ by (has_name ns u)
  where
    by : (b : Bool) → (if b then true else has_name ms u) ≡ true
    by true = refl
    by false = named

pub named_neither : (ns ms : List (List ℕ)) (u : List ℕ) → has_name ns u ≡ false → has_name ms u ≡ false → has_name (ns ++ ms) u ≡ false
named_neither ns ms u not_first not_second = either_name ns ms u ∙ rw (not_first, not_second) refl

first_false : (a b : Bool) → (if a then true else b) ≡ false → a ≡ false
first_false true b not = absurd (cc)
first_false false b not = refl

second_false : (a b : Bool) → (if a then true else b) ≡ false → b ≡ false
second_false true b not = absurd (cc)
second_false false b not = not

neither_first : (ns ms : List (List ℕ)) (u : List ℕ) → has_name (ns ++ ms) u ≡ false → has_name ns u ≡ false
neither_first ns ms u not = first_false (has_name ns u) (has_name ms u) (sym (either_name ns ms u) ∙ not)

neither_second : (ns ms : List (List ℕ)) (u : List ℕ) → has_name (ns ++ ms) u ≡ false → has_name ms u ≡ false
neither_second ns ms u not = second_false (has_name ns u) (has_name ms u) (sym (either_name ns ms u) ∙ not)

-- a test that is false, and another that is true
fails : (a b : Bool) → (if a then false else b) ≡ true → a ≡ false
fails true b is = absurd (cc)
fails false b is = refl

holds : (a b : Bool) → (if a then false else b) ≡ true → b ≡ true
holds true b is = absurd (cc)
holds false b is = is

pub differ_second : (ns ms : List (List ℕ)) → all_differ (ns ++ ms) ≡ true → all_differ ms ≡ true
differ_second [] ms differ = differ
differ_second (n ∷ ns) ms differ = differ_second ns ms (holds (has_name (ns ++ ms) n) (all_differ (ns ++ ms)) differ)

pub differ_first : (ns ms : List (List ℕ)) → all_differ (ns ++ ms) ≡ true → all_differ ns ≡ true
differ_first [] ms differ = refl
differ_first (n ∷ ns) ms differ =
    let none : has_name ns n ≡ false = neither_first ns ms n (fails (has_name (ns ++ ms) n) (all_differ (ns ++ ms)) differ) in
    let rest : all_differ ns ≡ true = differ_first ns ms (holds (has_name (ns ++ ms) n) (all_differ (ns ++ ms)) differ) in
    rw (none, rest) refl

-- a name of the first is none of the others
pub apart : (ns ms : List (List ℕ)) (u : List ℕ) → all_differ (ns ++ ms) ≡ true → has_name ns u ≡ true → has_name ms u ≡ false
apart [] ms u differ named = absurd (cc)
apart (n ∷ ns) ms u differ named = by (bytes_eq u n) refl named (apart ns ms u (holds (has_name (ns ++ ms) n) (all_differ (ns ++ ms)) differ))
  where
    none : has_name ms n ≡ false
    none = neither_second ns ms n (fails (has_name (ns ++ ms) n) (all_differ (ns ++ ms)) differ)

    by : (b : Bool) → bytes_eq u n ≡ b → (if b then true else has_name ns u) ≡ true → (has_name ns u ≡ true → has_name ms u ≡ false) → has_name ms u ≡ false
    by true is named rest = let same : u ≡ n = (bytes_eq-Decides u n).0 is in subst (λ v. has_name ms v ≡ false) (sym same) none
    by false is named rest = rest named

-- a member goes to the first if it has a name of theirs, and otherwise to the others
unfoldable pub first_or : {S T : Type 0} → List (List ℕ) → Step S → Step T → Step (S × T)
first_or names a b s u t = if has_name names u then if_some (λ n. (n, s.1)) (a s.0 u t) else if_some (λ n. (s.0, n)) (b s.1 u t)

module _ {S T A B : Type 0} (a : Layout S A) (b : Layout T B) where
  pub to_first : (s : S × T) (u : List ℕ) (t : Tree) → has_name a.names u ≡ true → first_or a.names a.step b.step s u t ≡ if_some (λ n. (n, s.1)) (a.step s.0 u t)
  unfolding first_or
  to_first s u t named = rw named refl

  pub to_others : (s : S × T) (u : List ℕ) (t : Tree) → has_name a.names u ≡ false → first_or a.names a.step b.step s u t ≡ if_some (λ n. (s.0, n)) (b.step s.1 u t)
  unfolding first_or
  to_others s u t named = rw named refl

  pub and_passes : (s : S × T) (u : List ℕ) (t : Tree) → has_name (a.names ++ b.names) u ≡ false → first_or a.names a.step b.step s u t ≡ Some s
  and_passes s u t not = rw (to_others s u t (neither_first a.names b.names u not), b.passes s.1 u t (neither_second a.names b.names u not)) refl

  module _ (differ : all_differ (a.names ++ b.names) ≡ true) where
    alone : {X Y : Type 0} (o : Option X) (y : Y) → if_some (λ n. (n, y)) o ≡ joint o (Some y)
    alone None y = refl
    alone (Some x) y = refl

    after : {X Y : Type 0} (x : X) (o : Option Y) → if_some (λ n. (x, n)) o ≡ joint (Some x) o
    after x None = refl
    after x (Some y) = refl

    -- since no name is both the first's and the others', each member changes both as if it were alone
    same_step : (s : S × T) (u : List ℕ) (t : Tree) → first_or a.names a.step b.step s u t ≡ both_steps a.step b.step s u t
    unfolding both_steps
    same_step s u t = by (has_name a.names u) refl
      where
        by : (x : Bool) → has_name a.names u ≡ x → first_or a.names a.step b.step s u t ≡ joint (a.step s.0 u t) (b.step s.1 u t)
        by true named = to_first s u t named ∙ alone (a.step s.0 u t) s.1 ∙ ap (joint (a.step s.0 u t)) (sym (b.passes s.1 u t (apart a.names b.names u differ named)))
        by false named = to_others s u t named ∙ after s.0 (b.step s.1 u t) ∙ ap (λ o. joint o (b.step s.1 u t)) (sym (a.passes s.0 u t named))

    same_run : (s : S × T) (ps : Members) → run (first_or a.names a.step b.step) s ps ≡ run (both_steps a.step b.step) s ps
    same_run s no_member = refl
    same_run s (member u escape_free t ps) = ap (if_more (λ n. run (first_or a.names a.step b.step) n ps)) (same_step s (encode_utf8_all u) t) ∙ by (both_steps a.step b.step s (encode_utf8_all u) t) (λ n. same_run n ps)
      where
        by : (o : Option (S × T)) → ((n : S × T) → run (first_or a.names a.step b.step) n ps ≡ run (both_steps a.step b.step) n ps) → if_more (λ n. run (first_or a.names a.step b.step) n ps) o ≡ if_more (λ n. run (both_steps a.step b.step) n ps) o
        by None rest = refl
        by (Some n) rest = rest n

    pub and_says : (ps : Members) → and_field a.convert b.convert ps ≡ if_more (λ s. joint (a.build s.0) (b.build s.1)) (run (first_or a.names a.step b.step) (a.start, b.start) ps)
    and_says ps = rw (a.says (differ_first a.names b.names differ) ps, b.says (differ_second a.names b.names differ) ps) (built_both a.build b.build (run a.step a.start ps) (run b.step b.start ps)
        ∙ sym (ap (if_more (λ (s : S × T). joint (a.build s.0) (b.build s.1))) (same_run (a.start, b.start) ps ∙ run_both a.step b.step a.start b.start ps)))

abbrev pub and_layout : {S T A B : Type 0} → Layout S A → Layout T B → Layout (S × T) (A × B)
and_layout a b = record {
  names = a.names ++ b.names;
  step = first_or a.names a.step b.step;
  start = (a.start, b.start);
  build = λ s. joint (a.build s.0) (b.build s.1);
  convert = and_field a.convert b.convert;
  passes = and_passes a b;
  says = and_says a b;
}

-- ---- the fields as they are read: a description, and what was read of it

abbrev pub Held : Type 0 → Type 0 → Type 0
Held S D = Layout S D × S

abbrev pub hold : {S D : Type 0} → Layout S D → S → Held S D
hold l n = (l, n)

unfoldable pub held_step : {S D : Type 0} → Step (Held S D)
held_step s u t = if_some (hold s.0) (s.0.step s.1 u t)

module _ {S D : Type 0} where
  pub held_run : (l : Layout S D) (s : S) (ps : Members) → run held_step (l, s) ps ≡ if_some (hold l) (run l.step s ps)
  unfolding held_step
  held_run l s no_member = refl
  held_run l s (member u escape_free t ps) = by (l.step s (encode_utf8_all u) t) (λ n. held_run l n ps)
    where
      by : (o : Option S) → ((n : S) → run held_step (l, n) ps ≡ if_some (hold l) (run l.step n ps)) → if_more (λ n. run held_step n ps) (if_some (hold l) o) ≡ if_some (hold l) (if_more (λ n. run l.step n ps) o)
      by None rest = refl
      by (Some n) rest = rest n

  pub held_build : (l : Layout S D) (o : Option S) → if_more l.build o ≡ if_more (λ (s : Held S D). s.0.build s.1) (if_some (hold l) o)
  held_build l None = refl
  held_build l (Some n) = refl

  -- the fields as a plan, which converts as the members make it
  abbrev pub held_plan : Layout S D → Plan (Held S D) D
  held_plan l = record { step = held_step; start = (l, l.start); build = λ s. s.0.build s.1; convert = λ ps. if_more l.build (run l.step l.start ps); says = λ ps. held_build l (run l.step l.start ps) ∙ sym (ap (if_more (λ (s : Held S D). s.0.build s.1)) (held_run l l.start ps)) }

  -- the same, if no two names are equal
  abbrev pub whole_plan : (l : Layout S D) → all_differ l.names ≡ true → Plan (Held S D) D
  whole_plan l differ = record { step = held_step; start = (l, l.start); build = λ s. s.0.build s.1; convert = l.convert; says = λ ps. l.says differ ps ∙ (held_plan l).says ps }

  pub held_takes : (l : Layout S D) (s : S) (u : List ℕ) (t : Tree) → held_step (l, s) u t ≡ if_some (hold l) (l.step s u t)
  unfolding held_step
  held_takes l s u t = refl

  pub held_passes : (l : Layout S D) (s : S) (u : List ℕ) (t : Tree) → has_name l.names u ≡ false → held_step (l, s) u t ≡ Some (l, s)
  held_passes l s u t not = held_takes l s u t ∙ ap (if_some (hold l)) (l.passes s u t not)
