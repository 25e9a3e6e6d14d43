use Rattle.std.proofs.Common.{◌≤◌, true, length, refl, arith}
use Rattle.json5_lexemes.specs.SameLexemes.{Same, Within, is_separator, is_sign, is_word_part, is_line_part}
use Rattle.json5_lexemes.specs.SameLexemes as same
use Rattle.json5_lexemes.specs.declared.runs.Run.TheVariants as runs
use Rattle.json5_lexemes.proofs.SameSteps.{untaken, followed, compared, as_first}
use Rattle.json5_lexemes.proofs.RunsPassed.{followed_run, in_string}
use Rattle.json5_lexemes.proofs.same.same_string.Goals as goal

pub returns-then-c-quote : goal.returns-then-c-quote
returns-then-c-quote c =
    let w = Within.string c.args.quote in
    let passed = followed_run runs.Text w w c.args.left.now c.args.right.now c.loop-c.left c.loop-c.right c.pass_run.new.left c.pass_run.new.right (in_string c.args.quote c.requires) c.loop-c.invariant c.pass_run.ensures in
    compared w w c.args.left.now c.args.right.now c.pass_run.new.left c.pass_run.new.right c.pass_both.new.left c.pass_both.new.right true passed
    (λ t m s. untaken w c.in-Some.c c.pass_run.new.left c.pass_run.new.right c.pass_both.new.left c.pass_both.new.right (c.if-not-pass_both.ensures.taken refl)
    (as_first w c.in-Some.c c.args.quote c.pass_both.new.left.unread c.pass_both.new.right.unread c.if-c-quote.true (same.string_ends s))) c.pass_both.ensures.shorter

pub loop-c-preserved : goal.loop-c-preserved
loop-c-preserved c =
    let w = Within.string c.args.quote in
    let passed = followed_run runs.Text w w c.args.left.now c.args.right.now c.loop-c.left c.loop-c.right c.pass_run.new.left c.pass_run.new.right (in_string c.args.quote c.requires) c.loop-c.invariant c.pass_run.ensures in
    let k : length c.pass_escaped.new.left.unread ≤ length c.pass_run.new.left.unread = omega (arith, c.pass_both.ensures.shorter, c.pass_escaped.ensures.shorter) in
    followed w w w c.args.left.now c.args.right.now c.pass_run.new.left c.pass_run.new.right c.pass_escaped.new.left c.pass_escaped.new.right passed
    (λ m s. untaken w c.in-Some.c c.pass_run.new.left c.pass_run.new.right c.pass_both.new.left c.pass_both.new.right (c.if-not-pass_both.ensures.taken refl) (c.if-not-pass_escaped.ensures.same refl m c.args.quote c.if-c-quote.false s)) k
