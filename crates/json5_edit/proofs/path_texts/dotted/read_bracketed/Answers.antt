use Rattle.std.proofs.Common.{arith}
use Rattle.std.proofs.lemmas.Str.Pattern.{strip_prefix_char}
use Rattle.json5_edit.proofs.PathsRead.{between_closes}
use Rattle.json5_edit.proofs.path_texts.dotted.read_bracketed.Goals as goal

pub returns-in-Some : goal.returns-in-Some
returns-in-Some c = between_closes c.args.inner.now _ c.in-Some.rest.now _ c.in_ok-step.ensures (rw c.in-Some.is at (strip_prefix_char 0x5D _ c.strip_prefix.result c.strip_prefix.ensures.cases (omega arith)))
