use Rattle.std.proofs.Common.{arith}
use Rattle.std.proofs.lemmas.Str.Pattern.{strip_prefix_char}
use Rattle.json5_edit.proofs.PathsRead.{between_ok, name_read, some_from}
use Rattle.json5_edit.proofs.path_texts.dotted.read_step.Goals as goal

pub returns-in-Some : goal.returns-in-Some
returns-in-Some c = between_ok c.args.is_first c.args.rest.now c.in-Some.inner.now (rw c.in-Some.is at (strip_prefix_char 0x5B c.args.rest.now c.strip_prefix.result c.strip_prefix.ensures.cases (omega arith))) c.read_bracketed.result c.read_bracketed.ensures

pub returns : goal.returns
returns c = name_read c.args.is_first c.args.rest.now c.in_ok-begun.begun.now c.split_name.result.0.now c.split_name.result.1.now c.in_ok-key.key c.in_ok-begun.ensures c.split_name.ensures c.in_ok-key.ensures.ok (some_from _ c.is_empty.result c.is_empty.ensures c.if-is_empty.false)
