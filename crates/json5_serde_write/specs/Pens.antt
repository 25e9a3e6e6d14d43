-- What is known of the part of a text that was written: whatever completes it, makes it the text of a tree.
-- A promise rests on this.
use Rattle.std.specs.Prelude.{◌≡◌, ℕ, Bool, true, false, List, [], ◌∷◌, length, Option, Some, None}
use Rattle.json5_write.specs.Commas.{comma_before}
use Rattle.json5_write.specs.Out.{Out, piece, ◌then◌, out, elements_out, fields_out, text_within}
use Rattle.json5_write.specs.WrittenTrees.{Written, Elements, Fields}
use Rattle.json5_write.specs.Writes.{SerializerState, Wrote, fresh_within, at_depth}
use Rattle.json5_write.specs.declared.brackets.Brackets.{Brackets}
use Rattle.json5_write.specs.declared.brackets.Brackets.TheVariants as brackets

-- ---- the open brackets

-- the innermost first, before those of o
abbrev pub kinds_onto : List Brackets → List Brackets → List Brackets
kinds_onto o [] = o
kinds_onto o (b ∷ bs) = kinds_onto (b ∷ o) bs

-- the innermost one, if any is open, and the outer ones
abbrev pub kinds_in : Option Brackets → List Brackets → List Brackets
kinds_in None bs = kinds_onto [] bs
kinds_in (Some b) bs = b ∷ kinds_onto [] bs

abbrev pub is_innermost : Option Brackets → Brackets → Bool
is_innermost (Some brackets.Square) brackets.Square = true
is_innermost (Some brackets.Curly) brackets.Curly = true
is_innermost _ _ = false

-- ---- what completes a text

-- more elements or members, the closing bracket, and the same of each bracket around; at the end nothing
abbrev pub Closes : ℕ → Bool → List Brackets → Out → Type 0
Closes limit due [] rest = rest ≡ piece []
Closes limit due (brackets.Square ∷ o) rest = (ts : Elements) × (after : Out) × (rest ≡ comma_before due (elements_out limit ts (length o) due) then after) × Closes limit true o after
Closes limit due (brackets.Curly ∷ o) rest = (fs : Fields) × (after : Out) × (rest ≡ comma_before due (fields_out limit fs (length o) due) then after) × Closes limit true o after

-- where a value is due, a value before that
abbrev pub Completes : ℕ → Bool → Bool → List Brackets → Out → Type 0
Completes limit true comma_due o rest = (t : Written) × (after : Out) × (rest ≡ out limit t (length o) then after) × Closes limit true o after
Completes limit false comma_due o rest = Closes limit comma_due o rest

-- what was written to s within these brackets begins the text of a tree, whatever completes it
pub record Begins (limit : ℕ) (s : SerializerState) (kinds : List Brackets) (value_due comma_due : Bool) : Type 0 where
  pub depth : s.depth ≡ length kinds
  pub front : Out
  pub wrote : Wrote front (fresh_within limit (Some [])) (at_depth 0 s)
  pub goes : (rest : Out) → Completes limit value_due comma_due kinds rest → (t : Written) × (text_within limit t ≡ front then rest)

-- the same, if no call was refused
pub record IsPen (limit : ℕ) (s : SerializerState) (kinds : List Brackets) (value_due comma_due : Bool) : Type 0 where
  pub live : s.failed ≡ false → Begins limit s kinds value_due comma_due
