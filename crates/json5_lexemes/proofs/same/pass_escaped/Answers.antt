use Rattle.std.proofs.Common.{arith}
use Rattle.json5_lexemes.specs.SameLexemes.{Same, Within, is_separator, is_sign, is_word_part, is_line_part}
use Rattle.json5_lexemes.specs.SameLexemes as same
use Rattle.json5_lexemes.proofs.SameSteps.{escaped}
use Rattle.json5_lexemes.proofs.same.pass_escaped.Goals as goal

pub returns-then-c-ne92 : goal.returns-then-c-ne92
returns-then-c-ne92 c = record { same = λ t m q ne s. same.raw ne c.if-c-ne92.true s; shorter = omega arith }

pub returns-in-Some : goal.returns-in-Some
returns-in-Some c = record {
  same = λ t m q ne s. escaped q c.args.c c.in-Some.next c.args.left.now c.args.right.now c.pass_both.new.left c.pass_both.new.right c.if-c-ne92.false (c.pass_both.ensures.taken t) s;
  shorter = c.pass_both.ensures.shorter;
}
