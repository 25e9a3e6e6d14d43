use Rattle.std.specs.Str.Iter.{chars_rest}
use Rattle.json5_settings.proofs.SlipsSeen.{Scanned}
use Rattle.json5_settings.proofs.slips.has_idle_escape.Given as goal

abbrev pub invariant-loop-c : goal.invariant-loop-c
invariant-loop-c l = Scanned l.is_escaped l.fn.spelled (chars_rest l.c-iterator)
