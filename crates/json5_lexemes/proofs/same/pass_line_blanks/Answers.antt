use Rattle.std.proofs.Common.{◌≡◌, true, false, refl, sym}
use Rattle.json5_grammar.specs.Language.Characters.{is_terminator, is_blank}
use Rattle.json5_lexemes.specs.SameLexemes.{Same, Within, is_separator, is_word_part, is_line_part}
use Rattle.json5_lexemes.specs.SameLexemes as same
use Rattle.json5_lexemes.proofs.SameSteps.{passed_more}
use Rattle.json5_lexemes.proofs.same.pass_line_blanks.Goals as goal

pub loop-c-preserved : goal.loop-c-preserved
loop-c-preserved c =
    let blank : is_blank c.in-Some.c ≡ true = sym c.if-not-is_json5_whitespace.ensures in
    let ends : is_terminator c.in-Some.c ≡ false = sym c.if-is_json5_line_terminator.ensures in
    let taken = c.if-not-eat.ensures.taken refl in (
      passed_more Within.line_blanks c.in-Some.c c.args.text.now c.loop-c.text c.eat.new.self c.loop-c.invariant.0 taken (λ m x y s. same.left_blank blank ends s) (λ m x y s. same.right_blank blank ends s),
      passed_more Within.front c.in-Some.c c.args.text.now c.loop-c.text c.eat.new.self c.loop-c.invariant.1 taken (λ m x y s. same.left_front blank ends s) (λ m x y s. same.right_front blank ends s),
    )
