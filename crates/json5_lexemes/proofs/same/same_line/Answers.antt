use Rattle.std.proofs.Common.{◌≡◌, false, refl, sym}
use Rattle.json5_grammar.specs.Language.Characters.{is_terminator}
use Rattle.json5_lexemes.specs.SameLexemes.{Same, Within, is_separator, is_sign, is_word_part, is_line_part}
use Rattle.json5_lexemes.specs.SameLexemes as same
use Rattle.json5_lexemes.specs.declared.runs.Run.TheVariants as runs
use Rattle.json5_lexemes.proofs.SameSteps.{untaken, followed, compared}
use Rattle.json5_lexemes.proofs.RunsPassed.{followed_run, in_line}
use Rattle.json5_lexemes.proofs.same.same_line.Goals as goal

pub returns-in_default : goal.returns-in_default
returns-in_default c =
    let passed = followed_run runs.Line Within.line Within.line c.args.left.now c.args.right.now c.loop-c.left c.loop-c.right c.pass_run.new.left c.pass_run.new.right in_line c.loop-c.invariant c.pass_run.ensures in
    compared Within.line Within.line c.args.left.now c.args.right.now c.pass_run.new.left c.pass_run.new.right c.same_line_end.new.left c.same_line_end.new.right c.same_line_end.result passed (λ t m s. same.line_blanks_begin (c.same_line_end.ensures.same t m s)) c.same_line_end.ensures.shorter

pub returns-then-is_json5_line_terminator : goal.returns-then-is_json5_line_terminator
returns-then-is_json5_line_terminator c =
    let passed = followed_run runs.Line Within.line Within.line c.args.left.now c.args.right.now c.loop-c.left c.loop-c.right c.pass_run.new.left c.pass_run.new.right in_line c.loop-c.invariant c.pass_run.ensures in
    compared Within.line Within.line c.args.left.now c.args.right.now c.pass_run.new.left c.pass_run.new.right c.same_line_end-then-is_json5_line_terminator.new.left c.same_line_end-then-is_json5_line_terminator.new.right c.same_line_end-then-is_json5_line_terminator.result passed (λ t m s. same.line_blanks_begin (c.same_line_end-then-is_json5_line_terminator.ensures.same t m s)) c.same_line_end-then-is_json5_line_terminator.ensures.shorter

pub returns-then-ne : goal.returns-then-ne
returns-then-ne c =
    let passed = followed_run runs.Line Within.line Within.line c.args.left.now c.args.right.now c.loop-c.left c.loop-c.right c.pass_run.new.left c.pass_run.new.right in_line c.loop-c.invariant c.pass_run.ensures in
    compared Within.line Within.line c.args.left.now c.args.right.now c.pass_run.new.left c.pass_run.new.right c.same_line_end-then-ne.new.left c.same_line_end-then-ne.new.right c.same_line_end-then-ne.result passed (λ t m s. same.line_blanks_begin (c.same_line_end-then-ne.ensures.same t m s)) c.same_line_end-then-ne.ensures.shorter

pub loop-c-preserved : goal.loop-c-preserved
loop-c-preserved c =
    let goes_on : is_terminator c.in-Some.c ≡ false = sym c.if-is_json5_line_terminator.ensures in
    let passed = followed_run runs.Line Within.line Within.line c.args.left.now c.args.right.now c.loop-c.left c.loop-c.right c.pass_run.new.left c.pass_run.new.right in_line c.loop-c.invariant c.pass_run.ensures in
    followed Within.line Within.line Within.line c.args.left.now c.args.right.now c.pass_run.new.left c.pass_run.new.right c.pass_both.new.left c.pass_both.new.right passed
    (λ m s. untaken Within.line c.in-Some.c c.pass_run.new.left c.pass_run.new.right c.pass_both.new.left c.pass_both.new.right (c.if-not-pass_both.ensures.taken refl) (same.line_goes_on goes_on s)) c.pass_both.ensures.shorter
