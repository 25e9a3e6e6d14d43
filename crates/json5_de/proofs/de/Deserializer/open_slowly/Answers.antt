use Rattle.std.proofs.Common.{refl, sym, ap, true, ◌∙◌}
use Rattle.json5_read.specs.Brackets.{brackets_of}
use Rattle.json5_de.proofs.OpenClose.{opens, opened_here, starts_here, refuses_opening}
use Rattle.json5_de.proofs.ObjectMembers.{signs_of}
use Rattle.std.proofs.lemmas.Result.{err_from_is_err_and}
use Rattle.json5_de.proofs.ReadSteps.{refused_blanks, refused_token, input_of}
use Rattle.json5_de.proofs.RefusalPositions.{refused_as}
use Rattle.json5_de.specs.State.{State}
use Rattle.json5_de.proofs.TokenKinds.{given_up, gives_up}
use Rattle.json5_de.proofs.BracketSteps.{level_of, failed_of, not_opened_here, too_deep_here}
use Rattle.json5_grammar.proofs.CommonLemmas.{true_false}
use Rattle.json5_de.proofs.de.Deserializer.open_slowly.Goals as goal

pub returns-in_err-skip_blank : goal.returns-in_err-skip_blank
returns-in_err-skip_blank g c =
    let (y, is, from) = err_from_is_err_and c.from_residual.result c.from_residual.ensures.1 in
    rw (is, from) (record {
      opens = refuses_opening (brackets_of c.args.kind) (signs_of c.args.kind) _ c.args.self.now c.in_err-skip_blank.field-0.0 (refused_blanks c.args.self.now c.in_err-skip_blank.field-0.0 c.in_err-skip_blank.ensures.refused) (λ h. (c.in_err-skip_blank.ensures.before h).0);
      failed = c.in_err-skip_blank.ensures.failed;
    })

pub returns-then-not-eat : goal.returns-then-not-eat
returns-then-not-eat g c =
    let b = brackets_of c.args.kind in
    let passed = c.in_ok-skip_blank.ensures.passed in
    let kept = rw c.brackets-brackets.ensures at c.if-not-eat.ensures.kept refl in
    record {
      opens = refuses_opening b (signs_of c.args.kind) _ c.args.self.now c.fail_unexpected.result
          (refused_token c.args.self.now c.skip_blank.new.self c.fail_unexpected.result passed
          (refused_as c.eat.new.self c.skip_blank.new.self c.fail_unexpected.result kept.0 (λ reason place f. not_opened_here b c.args.self.now.level c.skip_blank.new.self.unread reason place kept.1 f) (rw c.brackets-brackets.ensures at c.fail_unexpected.ensures.fault)))
          (λ h. absurd (true_false h passed.live));
      failed = given_up c.args.self.now c.skip_blank.new.self c.fail_unexpected.new.self passed (gives_up _ _ (c.fail_unexpected.ensures.state ∙ ap (λ (s : State). record s { failed = true }) kept.0));
    }

pub returns-then-not-enter_bracket : goal.returns-then-not-enter_bracket
returns-then-not-enter_bracket g c =
    let b = brackets_of c.args.kind in
    let passed = c.in_ok-skip_blank.ensures.passed in
    let took = rw c.brackets-brackets.ensures at c.if-not-eat.ensures.taken refl in
    let kept = c.if-not-enter_bracket.ensures.kept refl in
    let full = level_of (sym passed.rest) ∙ level_of (sym took.rest) ∙ kept.0 in
    rw c.refuse.ensures.result (record {
      opens = refuses_opening b (signs_of c.args.kind) _ c.args.self.now c.new_at-error.result
          (refused_token c.args.self.now c.skip_blank.new.self c.new_at-error.result passed
          (too_deep_here b c.args.self.now.level c.skip_blank.new.self c.eat.new.self c.new_at-error.result c.position_of.result full took c.new_at-error.ensures.kind c.new_at-error.ensures.place
          (λ before split. c.position_of.ensures.inside before c.skip_blank.new.self.unread (input_of kept.1 ∙ input_of took.rest ∙ split) (c.offset-start.ensures.counted before split))))
          (λ h. absurd (true_false h passed.live));
      failed = record { failed = failed_of c.refuse.ensures.state; same_text = input_of c.refuse.ensures.state ∙ input_of kept.1 ∙ input_of took.rest ∙ input_of passed.rest };
    })

pub returns : goal.returns
returns g c =
    let b = brackets_of c.args.kind in
    let passed = c.in_ok-skip_blank.ensures.passed in
    let took = rw c.brackets-brackets.ensures at c.if-not-eat.ensures.taken refl in
    let entered = c.if-not-enter_bracket.ensures.entered refl in
    record {
      opens = opens b (signs_of c.args.kind) _ c.args.self.now c.offset-start.result (opened_here b c.args.self.now c.skip_blank.new.self c.eat.new.self c.enter_bracket.new.self passed took entered) refl
          (starts_here b c.args.self.now c.skip_blank.new.self c.eat.new.self c.enter_bracket.new.self c.offset-start.result passed took entered.1 c.offset-start.ensures.counted);
      failed = tt;
    }
