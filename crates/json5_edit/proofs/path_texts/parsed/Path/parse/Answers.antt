use Rattle.std.proofs.Common.{arith, inl, inr}
use Rattle.std.proofs.lemmas.Str.Pattern.{strip_prefix_char}
use Rattle.json5_edit.proofs.path_texts.parsed.Path.parse.Goals as goal

pub returns-in_ok-written-in-Some : goal.returns-in_ok-written-in-Some
returns-in_ok-written-in-Some c = inl (c.in-Some.rest.now, rw c.in-Some.is at (strip_prefix_char 0x2F c.args.text.now c.strip_prefix.result c.strip_prefix.ensures.cases (omega arith)), c.in_ok-written-in-Some.ensures)

pub returns-in_ok-written-in-None : goal.returns-in_ok-written-in-None
returns-in_ok-written-in-None c = inr (rw c.in-None.is at (strip_prefix_char 0x2F c.args.text.now c.strip_prefix.result c.strip_prefix.ensures.cases (omega arith)), c.in_ok-written-in-None.ensures)
