-- The brackets of a collection, and of what a variant holds.
-- A promise rests on this.
use Rattle.std.specs.Prelude.{ℕ, List, Bool, true, false}
use Rattle.json5_grammar.specs.Faults.Fronts.{opening}
use Rattle.json5_write.specs.Brackets.{bracket_of}
use Rattle.json5_write.specs.Out.{Out, variant_opening}
use Rattle.json5_write.specs.Writes.{SerializerState}
use Rattle.json5_write.specs.declared.brackets.Brackets.{Brackets}
use Rattle.json5_write.specs.declared.brackets.Brackets.TheVariants as brackets

-- whether they are those of a list
abbrev pub is_square : Brackets → Bool
is_square brackets.Square = true
is_square brackets.Curly = false

-- what opens these brackets as what a variant of this name holds
abbrev pub variant_of : SerializerState → List ℕ → Brackets → Out
variant_of s name b = variant_opening s.limit name (opening (bracket_of b)) s.depth
