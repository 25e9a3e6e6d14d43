use Rattle.std.proofs.Common.{◌≤◌, length, refl, arith}
use Rattle.json5_lexemes.specs.SameLexemes.{Within}
use Rattle.json5_lexemes.specs.SameLexemes as same
use Rattle.json5_lexemes.specs.declared.runs.Run.TheVariants as runs
use Rattle.json5_lexemes.proofs.SameSteps.{untaken, followed, compared, block_ended}
use Rattle.json5_lexemes.proofs.RunsPassed.{followed_run, in_block}
use Rattle.json5_lexemes.proofs.same.same_block.Goals as goal

pub returns-then-ends_block : goal.returns-then-ends_block
returns-then-ends_block c =
    let passed = followed_run runs.Block Within.block Within.block c.args.left.now c.args.right.now c.loop-c.left c.loop-c.right c.pass_run.new.left c.pass_run.new.right in_block c.loop-c.invariant c.pass_run.ensures in
    let first = c.if-not-pass_both.ensures.taken refl in
    let k : length c.pass_both-then-ends_block.new.left.unread ≤ length c.pass_run.new.left.unread = omega (arith, c.pass_both.ensures.shorter, c.pass_both-then-ends_block.ensures.shorter) in
    compared Within.block Within.block c.args.left.now c.args.right.now c.pass_run.new.left c.pass_run.new.right c.pass_both-then-ends_block.new.left c.pass_both-then-ends_block.new.right c.pass_both-then-ends_block.result passed
    (λ t m s. block_ended Within.block c.in-Some.c c.pass_run.new.left c.pass_run.new.right c.pass_both.new.left c.pass_both.new.right c.pass_both-then-ends_block.new.left c.pass_both-then-ends_block.new.right (c.if-ends_block.ensures.ends refl) first (c.pass_both-then-ends_block.ensures.taken t) (same.block_ends s)) k

pub loop-c-preserved : goal.loop-c-preserved
loop-c-preserved c =
    let passed = followed_run runs.Block Within.block Within.block c.args.left.now c.args.right.now c.loop-c.left c.loop-c.right c.pass_run.new.left c.pass_run.new.right in_block c.loop-c.invariant c.pass_run.ensures in
    let left = c.pass_both.new.left in
    let right = c.pass_both.new.right in
    followed Within.block Within.block Within.block c.args.left.now c.args.right.now c.pass_run.new.left c.pass_run.new.right left right passed
    (λ m s. untaken Within.block c.in-Some.c c.pass_run.new.left c.pass_run.new.right left right (c.if-not-pass_both.ensures.taken refl) (c.if-ends_block.ensures.goes_on refl m left.unread right.unread refl s)) c.pass_both.ensures.shorter
