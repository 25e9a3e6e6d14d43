use Rattle.std.proofs.Common.{◌≡◌, ◌++◌, arith, subst, sym}
use Rattle.std.proofs.lemmas.Str.Pattern.{strip_prefix_char}
use Rattle.json5_edit.specs.PathTexts.{dot_unless}
use Rattle.json5_edit.proofs.path_texts.dotted.skip_dot.Goals as goal

pub returns-in-Some : goal.returns-in-Some
returns-in-Some c = subst (λ b. c.args.rest.now ≡ dot_unless b ++ c.in-Some.begun.now) (sym c.if-is_first.false) (rw c.in-Some.is at (strip_prefix_char 0x2E c.args.rest.now c.strip_prefix.result c.strip_prefix.ensures.cases (omega arith)))
