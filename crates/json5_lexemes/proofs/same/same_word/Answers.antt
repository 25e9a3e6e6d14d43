use Rattle.std.proofs.Common.{◌≤◌, true, length, refl, sym, arith}
use Rattle.json5_lexemes.specs.SameLexemes.{Same, Within, is_separator, is_sign, is_word_part, is_line_part}
use Rattle.json5_lexemes.specs.SameLexemes as same
use Rattle.json5_lexemes.specs.declared.runs.Run.TheVariants as runs
use Rattle.json5_lexemes.proofs.SameSteps.{untaken, followed, compared}
use Rattle.json5_lexemes.proofs.RunsPassed.{followed_run, in_word}
use Rattle.json5_lexemes.proofs.same.same_word.Goals as goal

pub returns-then-ends_word : goal.returns-then-ends_word
returns-then-ends_word c =
    let passed = followed_run runs.Word Within.word Within.word c.args.left.now c.args.right.now c.loop-right.left c.loop-right.right c.pass_run.new.left c.pass_run.new.right in_word c.loop-right.invariant c.pass_run.ensures in
    compared Within.word Within.word c.args.left.now c.args.right.now c.pass_run.new.left c.pass_run.new.right c.pass_run.new.left c.pass_run.new.right c.ends_word-then-ends_word.result passed
    (λ t m s. same.word_ends (c.if-ends_word.ensures refl) (c.ends_word-then-ends_word.ensures t) s) (omega arith)

pub loop-right-preserved : goal.loop-right-preserved
loop-right-preserved c =
    let (d, part, taken, taken_right) = c.if-not-pass_word_part.ensures.taken refl in
    let passed = followed_run runs.Word Within.word Within.word c.args.left.now c.args.right.now c.loop-right.left c.loop-right.right c.pass_run.new.left c.pass_run.new.right in_word c.loop-right.invariant c.pass_run.ensures in
    followed Within.word Within.word Within.word c.args.left.now c.args.right.now c.pass_run.new.left c.pass_run.new.right c.pass_word_part.new.left c.pass_word_part.new.right passed
    (λ m s. untaken Within.word d c.pass_run.new.left c.pass_run.new.right c.pass_word_part.new.left c.pass_word_part.new.right (taken, taken_right) (same.word_goes_on part s)) c.pass_word_part.ensures.shorter
