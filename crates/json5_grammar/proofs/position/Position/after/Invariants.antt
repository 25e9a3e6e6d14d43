use Rattle.std.proofs.Common.{◌≡◌, ◌≤◌, ◌+◌, false, length, IsUtf8, chars}
use Rattle.std.specs.Str.Iter.{chars_rest}
use Rattle.json5_grammar.specs.Model.PositionSteps.{position_from}
use Rattle.json5_grammar.proofs.position.Position.after.Given as goal

abbrev pub invariant-loop-c : goal.invariant-loop-c
invariant-loop-c l = IsUtf8 (chars_rest l.c-iterator)
    × (position_from l.position l.is_after_cr (chars (chars_rest l.c-iterator)) ≡ position_from (record { line = 0; column = 0 }) false (chars l.fn.text))
    × (l.position.line + l.position.column + length (chars_rest l.c-iterator) ≤ length l.fn.text)
