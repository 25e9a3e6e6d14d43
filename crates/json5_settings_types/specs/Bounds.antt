-- Numbers within bounds, lists that aren't empty, and the fault of what isn't taken.
-- A promise rests on this.
use Rattle.std.specs.Prelude.{◌≡◌, ◌⊎◌, ◌<◌, ◌^◌, ◌≤ℤ◌, ◌<ℤ◌, ℕ, if◌then◌else◌, ℤ, neg_ℤ, pos, List, [], ◌∷◌, length, map, Option, Some, None, Result}
use Rattle.std.specs.List.{All}
use Rattle.std.specs.Int.Signed.{le_z}
use Rattle.json5_grammar.specs.declared.position.Position.{Position}
use Rattle.json5_types.specs.declared.error.Error.{Error}
use Rattle.json5_types.specs.Errors.{IsCustomAt, LacksMemory}
use Rattle.json5_tokens.specs.Cursor.{IsPositionOf}
use Rattle.json5_grammar.specs.Language.Trees.{Tree}
use Rattle.json5_grammar.specs.Model.Collections.{array_of, contents}
use Rattle.json5_de.specs.Convert.{signed_below, text_of}
use Rattle.json5_de.specs.DeserializeLaw.{IsUnprompted}
use Rattle.json5_de.specs.Refinement.{ReadsExactly, RefusesOwn, refined}
use Rattle.json5_de.specs.State.{State}
use Rattle.json5_de.specs.TokenKinds.{no_tree}
use Rattle.json5_ser.specs.EscapeFreeMarks.{marks}
use Rattle.json5_ser.specs.WrittenTrees.{Written, array, elements_of, integer}

-- the number, where it is neither below `low` nor above `high`
abbrev pub if_within : ℤ → ℤ → ℤ → Option ℤ
if_within low high z = if le_z low z then (if le_z z high then Some z else None) else None

-- the list, where it has an element
abbrev pub if_some_element : {C : Type 0} → List C → Option (List C)
if_some_element [] = None
if_some_element (c ∷ cs) = Some (c ∷ cs)

-- a custom fault at the offset, or memory ran out for it
pub record IsOwnFault (input : List ℕ) (start : ℕ) (e : Error) : Type 0 where
  pub own : LacksMemory e ⊎ ((p : Position) × IsPositionOf input start p × IsCustomAt (Some p) e)
  pub unprompted : IsUnprompted e

-- a text is read from the front, and is what it spells; it may take memory
abbrev pub ReadsSpelled : {V M : Type 0} → (V → M) → (List ℕ → Option M) → (State → Error → State → Type 0) → State → State → Result V Error → Type 0
ReadsSpelled meaning spells refuses = ReadsExactly meaning (refined text_of spells) no_tree (RefusesOwn text_of spells refuses)

-- what is written of this number is read as the same, where its type has 64 bits
abbrev pub NumberReadsBack : ℤ → ℤ → ℤ → Type 0
NumberReadsBack low high z = neg_ℤ (pos (2 ^ 63)) ≤ℤ z → z <ℤ pos (2 ^ 63) → refined (signed_below (2 ^ 63)) (if_within low high) (marks (integer z)) ≡ Some z

-- what is written of a list with an element reads back, if its elements do
abbrev pub ListReadsBack : {V C : Type 0} → (V → Written) → (Tree → Option C) → (V → C) → Type 0
ListReadsBack {V = V} tree convert content =
    (vs : List V) → 0 < length vs → All (λ v. convert (marks (tree v)) ≡ Some (content v)) vs → refined (array_of (contents convert)) if_some_element (marks (array (elements_of tree vs))) ≡ Some (map content vs)
