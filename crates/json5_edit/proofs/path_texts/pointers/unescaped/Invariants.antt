use Rattle.std.proofs.Common.{length, IsUtf8, string_bytes}
use Rattle.json5_edit.proofs.PathsRead.{IsUnescaped}
use Rattle.json5_edit.proofs.path_texts.pointers.unescaped.Given as goal

abbrev pub invariant-escapes : goal.invariant-escapes
invariant-escapes l = IsUnescaped l.fn.part l.rest (string_bytes l.key) × IsUtf8 l.rest

abbrev pub decreases-escapes : goal.decreases-escapes
decreases-escapes l = length l.rest
