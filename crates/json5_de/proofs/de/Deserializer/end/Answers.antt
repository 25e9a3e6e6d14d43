use Rattle.std.proofs.Common.{refl, ap, ◌∙◌, subst, Some, []}
use Rattle.std.specs.Prelude.{slice_get}
use Rattle.std.proofs.lemmas.Result.{err_from_is_err_and}
use Rattle.json5_grammar.proofs.CommonLemmas.{true_false}
use Rattle.json5_tokens.specs.Cursor.{IsPositioned}
use Rattle.json5_de.specs.State.{State, cursor_of}
use Rattle.json5_de.proofs.InputEnds.{not_ended, ended, refused_trailing, end_not_blamed}
use Rattle.json5_de.proofs.TokenKinds.{given_up, gives_up}
use Rattle.json5_de.proofs.ReadSteps.{refused_blanks}
use Rattle.json5_de.proofs.de.Deserializer.end.Goals as goal

pub returns-in_err-skip_blank : goal.returns-in_err-skip_blank
returns-in_err-skip_blank g c =
    let (y, is, from) = err_from_is_err_and c.from_residual.result c.from_residual.ensures.1 in
    rw (is, from) (record {
      sound = tt;
      complete = λ end. end_not_blamed c.args.self.now c.in_err-skip_blank.field-0.0 end c.in_err-skip_blank.ensures.refused;
      refused = refused_blanks c.args.self.now c.in_err-skip_blank.field-0.0 c.in_err-skip_blank.ensures.refused;
      failed = c.in_err-skip_blank.ensures.failed;
      before = c.in_err-skip_blank.ensures.before;
    })

pub returns-then-is_some : goal.returns-then-is_some
returns-then-is_some g c =
    let passed = c.in_ok-skip_blank.ensures.passed in
    let next = c.peek.ensures ∙ ap (λ (s : State). slice_get s.unread 0) c.self.view_is in
    let placed = subst (λ (s : State). IsPositioned (cursor_of s) (Some []) c.fault_here-error.result) c.self.view_is c.fault_here-error.ensures.placed in
    rw c.refuse.ensures.result (record {
      sound = tt;
      complete = λ end. not_ended c.args.self.now c.skip_blank.new.self c.peek.result c.is_some.result passed c.if-is_some.true c.is_some.ensures next end;
      refused = refused_trailing c.args.self.now c.skip_blank.new.self c.fault_here-error.result c.peek.result c.is_some.result passed c.if-is_some.true c.is_some.ensures next c.fault_here-error.ensures.kind placed;
      failed = given_up c.args.self.now c.skip_blank.new.self c.refuse.new.self passed (gives_up _ _ c.refuse.ensures.state);
      before = λ h. absurd (true_false h passed.live);
    })

pub returns : goal.returns
returns g c =
    let passed = c.in_ok-skip_blank.ensures.passed in
    let next = c.peek.ensures ∙ ap (λ (s : State). slice_get s.unread 0) c.self.view_is in
    record {
      sound = ended c.args.self.now c.skip_blank.new.self c.peek.result c.is_some.result passed c.if-is_some.false c.is_some.ensures next;
      complete = λ end. refl;
      refused = tt;
      failed = tt;
      before = λ h. absurd (true_false h passed.live);
    }
