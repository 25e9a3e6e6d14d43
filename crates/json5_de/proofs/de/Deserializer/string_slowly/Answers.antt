use Rattle.std.proofs.Common.{refl, string_bytes}
use Rattle.std.proofs.lemmas.Result.{err_from_is_err_and, IfOk-weaker}
use Rattle.json5_grammar.specs.Language.Trees as trees
use Rattle.json5_grammar.specs.Language.Values.{is_text}
use Rattle.json5_de.specs.Convert.{every_text}
use Rattle.json5_de.specs.TokenKinds.{no_tree}
use Rattle.json5_de.proofs.ReadSteps.{took_leaf}
use Rattle.json5_de.proofs.ExpectsStrings.{text_stops}
use Rattle.json5_de.proofs.TokenKinds.{lawful_text, not_begun, reads_text}
use Rattle.json5_de.proofs.de.Deserializer.string_slowly.Goals as goal

pub returns-in_err-skip_blank : goal.returns-in_err-skip_blank
returns-in_err-skip_blank g c =
    let (y, is, from) = err_from_is_err_and c.from_residual.result c.from_residual.ensures.1 in
    rw (is, from) (not_begun (lawful_text every_text no_tree) string_bytes c.args.self.now c.skip_blank.new.self c.in_err-skip_blank.field-0.0 c.in_err-skip_blank.ensures.refused c.in_err-skip_blank.ensures.failed c.in_err-skip_blank.ensures.before)

pub returns : goal.returns
returns g c =
    let passed = c.in_ok-skip_blank.ensures.passed in
    let new = c.string_owned.new.self in
    reads_text every_text no_tree string_bytes c.args.self.now c.skip_blank.new.self new c.string_owned.result passed
    (IfOk-weaker c.string_owned.result _ _ (λ t (s, u, escape_free, took, str, bytes). (trees.text u escape_free, took_leaf c.args.self.now c.skip_blank.new.self new s (trees.text u escape_free) refl passed took (is_text str) (text_stops new.unread str), rw bytes refl)) c.string_owned.ensures.taken)
    c.string_owned.ensures.refused c.string_owned.ensures.failed (λ t r v live reads shallow is allocation_free. absurd (cc))
