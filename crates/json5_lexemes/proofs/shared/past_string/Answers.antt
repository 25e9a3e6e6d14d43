use Rattle.std.proofs.Common.{rules, sym}
use Rattle.json5_lexemes.proofs.SharedSteps.{string_begun, string_done, string_smaller, string_step}
use Rattle.json5_lexemes.proofs.shared.past_string.Goals as goal

pub loop-left_run-init : goal.loop-left_run-init
loop-left_run-init c = (c.utf8.left, c.utf8.right, string_begun c.args.quote c.args.left.now c.args.right.now)

pub returns-then-c-quote : goal.returns-then-c-quote
returns-then-c-quote c =
    string_done c.in-Some-past_same.c c.args.quote c.args.left.now c.args.right.now c.loop-left_run.left_rest.now c.loop-left_run.right_rest.now c.in-Some.left_run.now c.in-Some.right_run.now c.in-Some-past_same.left_next.now
    c.in-Some-past_same.right_next.now (sym c.if-not-is_quote.ensures) c.loop-left_run.invariant.2 c.in-Some.ensures c.if-c-quote.true c.in-Some-past_same.ensures

pub loop-left_run-preserved : goal.loop-left_run-preserved
loop-left_run-preserved c = (
  search rules,
  search rules,
  string_step c.in-Some-past_same.c c.args.quote c.args.left.now c.args.right.now c.loop-left_run.left_rest.now c.loop-left_run.right_rest.now c.in-Some.left_run.now c.in-Some.right_run.now c.in-Some-past_same.left_next.now
      c.in-Some-past_same.right_next.now c.in-Some-past_escaped.left_after.now c.in-Some-past_escaped.right_after.now (sym c.if-not-is_quote.ensures) c.loop-left_run.invariant.2 c.in-Some.ensures c.if-c-quote.false c.in-Some-past_same.ensures c.in-Some-past_escaped.ensures,
)

pub loop-left_run-smaller : goal.loop-left_run-smaller
loop-left_run-smaller c =
    string_smaller c.in-Some-past_same.c c.loop-left_run.left_rest.now c.loop-left_run.right_rest.now c.in-Some.left_run.now c.in-Some.right_run.now c.in-Some-past_same.left_next.now c.in-Some-past_same.right_next.now
    c.in-Some-past_escaped.left_after.now c.in-Some-past_escaped.right_after.now c.in-Some.ensures c.in-Some-past_same.ensures c.in-Some-past_escaped.ensures
