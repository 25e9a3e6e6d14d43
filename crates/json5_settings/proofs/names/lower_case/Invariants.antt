use Rattle.std.specs.Prelude.{string_bytes}
use Rattle.std.specs.Str.Iter.{chars_rest}
use Rattle.json5_settings.proofs.WordsParted.{Lowers}
use Rattle.json5_settings.proofs.names.lower_case.Given as goal

abbrev pub invariant-loop-c : goal.invariant-loop-c
invariant-loop-c l = Lowers l.with_marks l.fn.name (chars_rest l.c-iterator) (string_bytes l.lower)
