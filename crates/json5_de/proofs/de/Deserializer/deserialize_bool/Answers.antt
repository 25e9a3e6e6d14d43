use Rattle.std.proofs.Common.{true, false, refl, ap, ◌∙◌}
use Rattle.std.specs.Prelude.{slice_get}
use Rattle.std.proofs.lemmas.Result.{err_from_is_err_and}
use Rattle.json5_grammar.specs.Language.Trees.{boolean}
use Rattle.json5_grammar.specs.Language.Values.{true_text, false_text, is_true, is_false}
use Rattle.json5_de.proofs.ReadSteps.{took_leaf, refused_bool, true_stops, false_stops}
use Rattle.json5_de.specs.State.{State}
use Rattle.json5_de.specs.TokenKinds.{bool_kind}
use Rattle.json5_de.proofs.TokenKinds.{lawful_bool, not_begun, refuses_after, reads_ok}
use Rattle.json5_de.proofs.de.Deserializer.deserialize_bool.Goals as goal

pub returns-in_err-skip_blank : goal.returns-in_err-skip_blank
returns-in_err-skip_blank g c =
    let (y, is, from) = err_from_is_err_and c.from_residual.result c.from_residual.ensures.1 in
    rw (is, from) (not_begun lawful_bool (λ b. b) c.args.self.now c.skip_blank.new.self c.in_err-skip_blank.field-0.0 c.in_err-skip_blank.ensures.refused c.in_err-skip_blank.ensures.failed c.in_err-skip_blank.ensures.before)

pub returns-in_err-literal : goal.returns-in_err-literal
returns-in_err-literal g c =
    let (y, is, from) = err_from_is_err_and c.from_residual-in_err-literal.result c.from_residual-in_err-literal.ensures.1 in
    let next = c.peek.ensures ∙ ap (λ (s : State). slice_get s.unread 0) c.self.view_is in
    let faulty = refused_bool c.skip_blank.new.self c.in_err-literal.field-0.0 _ true c.eq.result c.peek.result c.if-eq.true c.eq.ensures next refl c.in_err-literal.ensures.refused in
    rw (is, from) (refuses_after lawful_bool (λ b. b) c.args.self.now c.skip_blank.new.self c.literal.new.self c.in_err-literal.field-0.0 c.in_ok-skip_blank.ensures.passed faulty c.in_err-literal.ensures.failed)

pub returns-then-eq : goal.returns-then-eq
returns-then-eq g c =
    let taken = c.in_ok-literal.ensures.taken in
    reads_ok bool_kind (λ b. b) c.args.self.now c.literal.new.self false (boolean false, took_leaf c.args.self.now c.skip_blank.new.self c.literal.new.self false_text (boolean false) refl c.in_ok-skip_blank.ensures.passed taken is_false (false_stops c.literal.new.self.unread), refl)

pub returns-in_err-literal-2 : goal.returns-in_err-literal-2
returns-in_err-literal-2 g c =
    let (y, is, from) = err_from_is_err_and c.from_residual-in_err-literal-2.result c.from_residual-in_err-literal-2.ensures.1 in
    let next = c.peek.ensures ∙ ap (λ (s : State). slice_get s.unread 0) c.self.view_is in
    let faulty = refused_bool c.skip_blank.new.self c.in_err-literal-2.field-0.0 _ false c.eq.result c.peek.result c.if-eq.false c.eq.ensures next refl c.in_err-literal-2.ensures.refused in
    rw (is, from) (refuses_after lawful_bool (λ b. b) c.args.self.now c.skip_blank.new.self c.literal-2.new.self c.in_err-literal-2.field-0.0 c.in_ok-skip_blank.ensures.passed faulty c.in_err-literal-2.ensures.failed)

pub returns : goal.returns
returns g c =
    let taken = c.in_ok-literal-2.ensures.taken in
    reads_ok bool_kind (λ b. b) c.args.self.now c.literal-2.new.self true (boolean true, took_leaf c.args.self.now c.skip_blank.new.self c.literal-2.new.self true_text (boolean true) refl c.in_ok-skip_blank.ensures.passed taken is_true (true_stops c.literal-2.new.self.unread), refl)
