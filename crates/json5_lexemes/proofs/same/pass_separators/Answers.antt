use Rattle.std.proofs.Common.{◌≡◌, true, refl, sym}
use Rattle.json5_lexemes.specs.SameLexemes.{Same, Within, is_separator, is_word_part, is_line_part}
use Rattle.json5_lexemes.specs.SameLexemes as same
use Rattle.json5_lexemes.proofs.SameSteps.{passed_more}
use Rattle.json5_lexemes.proofs.RunsPassed.{passed_separators, passed_nothing}
use Rattle.json5_lexemes.proofs.same.pass_separators.Goals as goal

pub loop-text-init : goal.loop-text-init
loop-text-init c = passed_separators c.args.text.now c.args.text.now c.pass_separator_run.new.text (passed_nothing Within.between c.args.text.now) c.pass_separator_run.ensures

pub loop-text-preserved : goal.loop-text-preserved
loop-text-preserved c =
    let is : is_separator c.in-Some.c ≡ true = sym c.if-not-is_separator.ensures in
    passed_separators c.args.text.now c.eat.new.self c.pass_separator_run-in-loop-text.new.text
    (passed_more Within.between c.in-Some.c c.args.text.now c.loop-text.text c.eat.new.self c.loop-text.invariant (c.if-not-eat.ensures.taken refl) (λ m x y s. same.left_separator is s) (λ m x y s. same.right_separator is s)) c.pass_separator_run-in-loop-text.ensures
