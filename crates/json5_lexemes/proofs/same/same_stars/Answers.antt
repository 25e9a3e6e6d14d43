use Rattle.std.proofs.Common.{◌≤◌, length, refl, arith}
use Rattle.json5_lexemes.specs.SameLexemes.{Within}
use Rattle.json5_lexemes.specs.SameLexemes as same
use Rattle.json5_lexemes.proofs.SameSteps.{untaken, followed, compared, block_ended}
use Rattle.json5_lexemes.proofs.same.same_stars.Goals as goal

pub returns-then-ends_block : goal.returns-then-ends_block
returns-then-ends_block c =
    let first = c.if-not-pass_both.ensures.taken refl in
    let k : length c.pass_both-then-ends_block.new.left.unread ≤ length c.loop-c.left.unread = omega (arith, c.pass_both.ensures.shorter, c.pass_both-then-ends_block.ensures.shorter) in
    compared Within.stars Within.stars c.args.left.now c.args.right.now c.loop-c.left c.loop-c.right c.pass_both-then-ends_block.new.left c.pass_both-then-ends_block.new.right c.pass_both-then-ends_block.result c.loop-c.invariant
    (λ t m s. block_ended Within.stars c.in-Some.c c.loop-c.left c.loop-c.right c.pass_both.new.left c.pass_both.new.right c.pass_both-then-ends_block.new.left c.pass_both-then-ends_block.new.right (c.if-ends_block.ensures.ends refl) first (c.pass_both-then-ends_block.ensures.taken t) (same.stars_end s)) k

pub loop-c-preserved : goal.loop-c-preserved
loop-c-preserved c =
    let mid = c.pass_both.new.left in
    let mid_right = c.pass_both.new.right in
    let k : length c.pass_front.new.left.unread ≤ length c.loop-c.left.unread = omega (arith, c.pass_both.ensures.shorter, c.pass_front.ensures.shorter) in
    followed Within.stars Within.stars Within.stars c.args.left.now c.args.right.now c.loop-c.left c.loop-c.right c.pass_front.new.left c.pass_front.new.right c.loop-c.invariant
    (λ m s. untaken Within.stars c.in-Some.c c.loop-c.left c.loop-c.right mid mid_right (c.if-not-pass_both.ensures.taken refl)
    (c.if-not-pass_front.ensures.same refl m (λ n h. c.if-ends_block.ensures.in_line refl m mid.unread mid_right.unread refl n h) s)) k
