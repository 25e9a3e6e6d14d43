use Rattle.std.proofs.Common.{arith}
use Rattle.json5_lexemes.proofs.SharedSteps.{string_char, string_escape, escape_shorter}
use Rattle.json5_lexemes.proofs.shared.past_escaped.Goals as goal

pub returns-then-c-ne92 : goal.returns-then-c-ne92
returns-then-c-ne92 c = record { in_string = λ x y q n a b. string_char c.args.c q x y c.args.left.now c.args.right.now n c.if-c-ne92.true a b; shorter = omega arith }

pub returns : goal.returns
returns c = record {
  in_string = λ x y q n a b.
      string_escape c.args.c c.in-Some.field-0-0 q x y c.args.left.now c.args.right.now c.in-Some.left_after.now c.in-Some.right_after.now c.if-c-ne92.false a b c.in-Some.ensures.0 c.in-Some.ensures.1;
  shorter = escape_shorter c.in-Some.field-0-0 c.args.left.now c.in-Some.left_after.now c.in-Some.ensures.0;
}
