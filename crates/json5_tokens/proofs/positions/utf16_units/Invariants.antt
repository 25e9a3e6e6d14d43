use Rattle.std.specs.Str.Iter.{chars_rest}
use Rattle.json5_tokens.proofs.UnitsCounted.{Units}
use Rattle.json5_tokens.proofs.positions.utf16_units.Given as goal

abbrev pub invariant-loop-c : goal.invariant-loop-c
invariant-loop-c l = Units l.fn.text (chars_rest l.c-iterator) l.units
