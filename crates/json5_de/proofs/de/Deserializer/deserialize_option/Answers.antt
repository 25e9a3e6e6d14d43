use Rattle.std.proofs.Common.{◌∙◌, sym, ap, false, refl, ◌∷◌}
use Rattle.std.specs.Prelude.{slice_get}
use Rattle.std.proofs.lemmas.Result.{err_from_is_err_and}
use Rattle.json5_grammar.specs.declared.error_code.ErrorCode.TheVariants as codes
use Rattle.json5_grammar.specs.Language.Trees.{null}
use Rattle.json5_grammar.specs.Language.Values.{null_text, is_null}
use Rattle.json5_de.specs.State.{State}
use Rattle.json5_de.proofs.ExpectedKinds.{end_fault, wrongly_refused}
use Rattle.json5_de.proofs.ExpectsWords.{expects_null}
use Rattle.json5_de.proofs.ReadSteps.{took_leaf, refused_blanks, refused_token, null_stops}
use Rattle.json5_read.proofs.ModelSteps.{none_next, some_next}
use Rattle.json5_de.proofs.TokenKinds.{given_up, gives_up}
use Rattle.json5_de.proofs.Options.{expects_nothing, blanks_no_value, end_next, value_no_end, null_next, null_not_next, option_some, null_unit, took_after, reads_option, refuses_option, refuses_some, missing_there, null_there, other_sign}
use Rattle.json5_de.proofs.de.Deserializer.deserialize_option.Goals as goal
use Rattle.json5_grammar.proofs.CommonLemmas.{true_false}

pub returns-in_err-skip_blank-clause-reads : goal.returns-in_err-skip_blank-clause-reads
returns-in_err-skip_blank-clause-reads g c =
    let (y, is, from) = err_from_is_err_and c.from_residual.result c.from_residual.ensures.1 in
    let e = c.in_err-skip_blank.field-0.0 in
    rw (is, from) (refuses_option g.T.Deserialize.content g.T.Deserialize.convert g.T.Deserialize.allocation_free g.T.Deserialize.refuses c.args.self.now c.skip_blank.new.self e
    (refused_blanks c.args.self.now e c.in_err-skip_blank.ensures.refused) c.in_err-skip_blank.ensures.failed c.in_err-skip_blank.ensures.before
    (λ t r live reads. blanks_no_value c.args.self.now e t r (c.in_err-skip_blank.ensures.refused live) reads))

pub returns-in_err-skip_blank-clause-ends : goal.returns-in_err-skip_blank-clause-ends
returns-in_err-skip_blank-clause-ends g c = λ at.
    let (y, is, from) = err_from_is_err_and c.from_residual.result c.from_residual.ensures.1 in
    rw (is, from) (end_fault (expects_nothing {ends = codes.EofParsingValue} {differs = codes.ExpectedValue} (λ k. false)) c.args.self.now c.in_err-skip_blank.field-0.0 at
    (refused_blanks c.args.self.now c.in_err-skip_blank.field-0.0 c.in_err-skip_blank.ensures.refused))

pub returns-in_default-clause-reads : goal.returns-in_default-clause-reads
returns-in_default-clause-reads g c =
    let passed = c.in_ok-skip_blank.ensures.passed in
    let none = none_next c.skip_blank.new.self.unread (sym (c.in_default.ensures ∙ ap (λ (s : State). slice_get s.unread 0) c.self.view_is)) in
    rw c.refuse.ensures.result (refuses_option g.T.Deserialize.content g.T.Deserialize.convert g.T.Deserialize.allocation_free g.T.Deserialize.refuses c.args.self.now c.refuse.new.self c.new.result
    (missing_there c.args.self.now c.skip_blank.new.self c.new.result passed none c.new.ensures.kind c.new.ensures.place) (given_up c.args.self.now c.skip_blank.new.self c.refuse.new.self passed (gives_up c.skip_blank.new.self c.refuse.new.self c.refuse.ensures.state)) (λ h. absurd (true_false h passed.live))
    (λ t r live reads. value_no_end c.args.self.now c.skip_blank.new.self t r passed none reads))

pub returns-in_err-literal-clause-reads : goal.returns-in_err-literal-clause-reads
returns-in_err-literal-clause-reads g c =
    let (y, is, from) = err_from_is_err_and c.from_residual-in_err-literal.result c.from_residual-in_err-literal.ensures.1 in
    let e = c.in_err-literal.field-0.0 in
    let passed = c.in_ok-skip_blank.ensures.passed in
    let peeked = c.peek.ensures ∙ ap (λ (s : State). slice_get s.unread 0) c.self.view_is in
    let (m, next) = some_next c.skip_blank.new.self.unread c.in-Some.next (sym peeked ∙ c.in-Some.is) in
    let n = next ∙ ap (λ k. k ∷ m) c.if-next-eq110.true in
    let faulty = c.in_err-literal.ensures.refused in
    rw (is, from) (refuses_option g.T.Deserialize.content g.T.Deserialize.convert g.T.Deserialize.allocation_free g.T.Deserialize.refuses c.args.self.now c.literal.new.self e
    (null_there c.args.self.now c.skip_blank.new.self e m passed n faulty) (given_up c.args.self.now c.skip_blank.new.self c.literal.new.self passed c.in_err-literal.ensures.failed) (λ h. absurd (true_false h passed.live))
    (λ t r live reads. wrongly_refused expects_null c.args.self.now e t r tt live reads (null_unit t (null_next c.args.self.now c.skip_blank.new.self t m r passed n reads)) (refused_token c.args.self.now c.skip_blank.new.self e passed faulty)))

pub returns-in_err-literal-clause-ends : goal.returns-in_err-literal-clause-ends
returns-in_err-literal-clause-ends g c = λ at.
    let peeked = c.peek.ensures ∙ ap (λ (s : State). slice_get s.unread 0) c.self.view_is in
    let (m, next) = some_next c.skip_blank.new.self.unread c.in-Some.next (sym peeked ∙ c.in-Some.is) in
    absurd (end_next c.args.self.now c.skip_blank.new.self c.in-Some.next m at c.in_ok-skip_blank.ensures.passed next)

pub returns-then-next-eq110-clause-reads : goal.returns-then-next-eq110-clause-reads
returns-then-next-eq110-clause-reads g c =
    let taken = c.in_ok-literal.ensures.taken in
    reads_option g.T.Deserialize.content g.T.Deserialize.convert g.T.Deserialize.allocation_free g.T.Deserialize.refuses c.args.self.now c.literal.new.self _
    (null, took_leaf c.args.self.now c.skip_blank.new.self c.literal.new.self null_text null refl c.in_ok-skip_blank.ensures.passed taken is_null (null_stops c.literal.new.self.unread), refl)

pub returns-then-next-eq110-clause-ends : goal.returns-then-next-eq110-clause-ends
returns-then-next-eq110-clause-ends g c = λ at.
    let peeked = c.peek.ensures ∙ ap (λ (s : State). slice_get s.unread 0) c.self.view_is in
    let (m, next) = some_next c.skip_blank.new.self.unread c.in-Some.next (sym peeked ∙ c.in-Some.is) in
    absurd (end_next c.args.self.now c.skip_blank.new.self c.in-Some.next m at c.in_ok-skip_blank.ensures.passed next)

pub returns-in-Ok-clause-reads : goal.returns-in-Ok-clause-reads
returns-in-Ok-clause-reads g c =
    let passed = c.in_ok-skip_blank.ensures.passed in
    let (t, took, is) = c.in-Ok.ensures.sound in
    let peeked = c.peek.ensures ∙ ap (λ (s : State). slice_get s.unread 0) c.self.view_is in
    let (m, next) = some_next c.skip_blank.new.self.unread c.in-Some.next (sym peeked ∙ c.in-Some.is) in
    reads_option g.T.Deserialize.content g.T.Deserialize.convert g.T.Deserialize.allocation_free g.T.Deserialize.refuses c.args.self.now c.deserialize.new.de _ (
      t,
      took_after c.args.self.now c.skip_blank.new.self c.deserialize.new.de t passed took,
      option_some g.T.Deserialize.convert t (g.T.Deserialize.content c.in-Ok.value) (null_not_next c.skip_blank.new.self.unread t c.in-Some.next m c.deserialize.new.de.unread next passed.solid c.if-next-eq110.false took.reads) is,
    )

pub returns-in-Ok-clause-ends : goal.returns-in-Ok-clause-ends
returns-in-Ok-clause-ends g c = λ at.
    let peeked = c.peek.ensures ∙ ap (λ (s : State). slice_get s.unread 0) c.self.view_is in
    let (m, next) = some_next c.skip_blank.new.self.unread c.in-Some.next (sym peeked ∙ c.in-Some.is) in
    absurd (end_next c.args.self.now c.skip_blank.new.self c.in-Some.next m at c.in_ok-skip_blank.ensures.passed next)

pub returns-in-Err-clause-reads : goal.returns-in-Err-clause-reads
returns-in-Err-clause-reads g c =
    let start = c.skip_blank.new.self in
    let after = c.deserialize.new.de in
    let peeked = c.peek.ensures ∙ ap (λ (s : State). slice_get s.unread 0) c.self.view_is in
    let (m, next) = some_next start.unread c.in-Some.next (sym peeked ∙ c.in-Some.is) in
    rw c.refuse-in-Err.ensures.result (refuses_some g.T.Deserialize.content g.T.Deserialize.convert g.T.Deserialize.allocation_free g.T.Deserialize.refuses c.args.self.now start after c.refuse-in-Err.new.self c.in-Err.e c.with_position_at-error.result c.in-Some.next m
    c.in_ok-skip_blank.ensures.passed next (other_sign c.in-Some.next 110 c.if-next-eq110.false) c.in-Err.ensures.refused c.in-Err.ensures.complete c.in-Err.ensures.no_memory c.in-Err.ensures.unprompted c.in-Err.ensures.same_text c.refuse-in-Err.ensures.state
    (record {
      kind = c.with_position_at-error.ensures.kind;
      there = c.with_position_at-error.ensures.there;
      place = c.with_position_at-error.ensures.place;
      is_there = λ before split. c.with_position_at-error.ensures.is_there before (record { rest = start.unread; split = c.in-Err.ensures.same_text ∙ split; counted = c.offset-start.ensures.counted before split });
    }))

pub returns-in-Err-clause-ends : goal.returns-in-Err-clause-ends
returns-in-Err-clause-ends g c = λ at.
    let peeked = c.peek.ensures ∙ ap (λ (s : State). slice_get s.unread 0) c.self.view_is in
    let (m, next) = some_next c.skip_blank.new.self.unread c.in-Some.next (sym peeked ∙ c.in-Some.is) in
    absurd (end_next c.args.self.now c.skip_blank.new.self c.in-Some.next m at c.in_ok-skip_blank.ensures.passed next)
