-- A struct that has no other fields than those of its layout.
-- A promise rests on this.
use Rattle.std.proofs.Common.{◌≡◌, ℕ, Bool, true, false, List, refl, sym, ap, ◌∙◌, Option, Some, None}
use Rattle.std.specs.Prelude.{if◌then◌else◌}
use Rattle.std.specs.Str.{encode_utf8_all}
use Rattle.json5_grammar.specs.Language.Trees.{Tree, Members, no_member, member}
use Rattle.json5_types.specs.declared.error.Error.{Error}
use Rattle.json5_de.specs.ConvertLists.{if_some}
use Rattle.json5_de.specs.KeyPlaces.{IsOwnAtKey}
use Rattle.json5_de.specs.Objects.{MapAccessState}
use Rattle.json5_de.specs.Plans.{Plan, Step, run}
use Rattle.json5_de.specs.Refinement.{if_more}
use Rattle.json5_fields.specs.Layouts.{Layout, Held, hold, held_step, held_takes, held_build, has_name, all_differ}

-- each member has one of the names
abbrev pub all_named : List (List ℕ) → Members → Bool
all_named names no_member = true
all_named names (member u escape_free t ps) = if has_name names (encode_utf8_all u) then all_named names ps else false

-- what the fields take of an object that has no others
abbrev pub only_these : {S D : Type 0} → Layout S D → Members → Option D
only_these l ps = if all_named l.names ps then l.convert ps else None

-- a member of another name isn't allowed
unfoldable pub only_step : {S D : Type 0} → Step (Held S D)
only_step s u t = if has_name s.0.names u then held_step s u t else None

-- the fault of a member of another name, at its key: it may have no value
pub record of_unknown (name : List ℕ) (may : Tree → Bool) (old : MapAccessState) (e : Error) : Type 0 where
  pub none : (t : Tree) → may t ≡ false
  pub fault : IsOwnAtKey name old e

module _ {S D : Type 0} where
  pub only_takes : (l : Layout S D) (s : S) (u : List ℕ) (t : Tree) → has_name l.names u ≡ true → only_step (l, s) u t ≡ if_some (hold l) (l.step s u t)
  unfolding only_step
  only_takes l s u t named = rw named (held_takes l s u t)

  pub only_none : (l : Layout S D) (s : S) (u : List ℕ) (t : Tree) → has_name l.names u ≡ false → only_step (l, s) u t ≡ None
  unfolding only_step
  only_none l s u t not = rw not refl

  none_left : (b : Bool) (l : Layout S D) → None ≡ (if b then if_some (hold l) None else None)
  none_left true l = refl
  none_left false l = refl

  pub only_run : (l : Layout S D) (s : S) (ps : Members) → run only_step (l, s) ps ≡ (if all_named l.names ps then if_some (hold l) (run l.step s ps) else None)
  only_run l s no_member = refl
  only_run l s (member u escape_free t ps) = by (has_name l.names (encode_utf8_all u)) refl (λ n. only_run l n ps)
    where
      on : (o : Option S) → ((n : S) → run only_step (l, n) ps ≡ (if all_named l.names ps then if_some (hold l) (run l.step n ps) else None)) → if_more (λ n. run only_step n ps) (if_some (hold l) o) ≡ (if all_named l.names ps then if_some (hold l) (if_more (λ n. run l.step n ps) o) else None)
      on None rest = none_left (all_named l.names ps) l
      on (Some n) rest = rest n

      by : (b : Bool) → has_name l.names (encode_utf8_all u) ≡ b → ((n : S) → run only_step (l, n) ps ≡ (if all_named l.names ps then if_some (hold l) (run l.step n ps) else None)) → run only_step (l, s) (member u escape_free t ps) ≡ (if (if b then all_named l.names ps else false) then if_some (hold l) (run l.step s (member u escape_free t ps)) else None)
      by true named rest = ap (if_more (λ n. run only_step n ps)) (only_takes l s (encode_utf8_all u) t named) ∙ on (l.step s (encode_utf8_all u) t) rest
      by false not rest = ap (if_more (λ n. run only_step n ps)) (only_none l s (encode_utf8_all u) t not)

  -- the fields as a plan
  abbrev pub only_plan : Layout S D → Plan (Held S D) D
  only_plan l = record { step = only_step; start = (l, l.start); build = λ s. s.0.build s.1; convert = λ ps. if_more (λ (s : Held S D). s.0.build s.1) (run only_step (l, l.start) ps); says = λ ps. refl }

  pub made : (b : Bool) (l : Layout S D) (c : Option D) (o : Option S) → c ≡ if_more l.build o → (if b then c else None) ≡ if_more (λ (s : Held S D). s.0.build s.1) (if b then if_some (hold l) o else None)
  made true l c o is = is ∙ held_build l o
  made false l c o is = refl

  -- the same, if no two names are equal
  abbrev pub whole_only : (l : Layout S D) → all_differ l.names ≡ true → Plan (Held S D) D
  whole_only l differ = record {
    step = only_step;
    start = (l, l.start);
    build = λ s. s.0.build s.1;
    convert = only_these l;
    says = λ ps. made (all_named l.names ps) l (l.convert ps) (run l.step l.start ps) (l.says differ ps) ∙ sym (ap (if_more (λ (s : Held S D). s.0.build s.1)) (only_run l l.start ps));
  }
