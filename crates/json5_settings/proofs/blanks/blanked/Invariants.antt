use Rattle.std.specs.Prelude.{slice_range, string_bytes}
use Rattle.std.specs.Str.Iter.{chars_rest}
use Rattle.json5_settings.proofs.Blanked.{Blanks}
use Rattle.json5_settings.proofs.blanks.blanked.Given as goal

-- blanks for what is left come behind what was made
abbrev pub invariant-loop-c : goal.invariant-loop-c
invariant-loop-c l = Blanks (slice_range l.fn.text 0 l.fn.from) (slice_range l.fn.text l.fn.from l.fn.till) (chars_rest l.c-iterator) (string_bytes l.made)
