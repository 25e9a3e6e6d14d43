use Rattle.std.proofs.Common.{string_bytes, length}
use Rattle.std.specs.Str.{chars}
use Rattle.json5_tokens.specs.ScanTexts.{AddsUpTo}
use Rattle.json5_tokens.proofs.strings_and_names.push_escapes.Given as goal

abbrev pub invariant-loop-spelled : goal.invariant-loop-spelled
invariant-loop-spelled l = AddsUpTo l.fn.kind l.fn.escape (string_bytes l.fn.text) (string_bytes l.text) l.rest

abbrev pub decreases-loop-spelled : goal.decreases-loop-spelled
decreases-loop-spelled l = length (chars l.rest)
