use Rattle.std.proofs.Common.{refl}
use Rattle.std.proofs.lemmas.Result.{err_from_is_err_and}
use Rattle.json5_de.specs.Convert.{names_bytes}
use Rattle.json5_de.specs.Lending.{named_state_of}
use Rattle.json5_de.proofs.Options.{blanks_no_value}
use Rattle.json5_de.proofs.ReadSteps.{refused_blanks}
use Rattle.json5_de.proofs.VariantNames.{names_nothing, text_named, text_unnamed, object_named, object_unnamed, no_name_begun}
use Rattle.json5_de.proofs.de.Deserializer.named.Goals as goal

pub returns-in_err-skip_blank-clause-names : goal.returns-in_err-skip_blank-clause-names
returns-in_err-skip_blank-clause-names g c =
    let (y, is, from) = err_from_is_err_and c.from_residual.result c.from_residual.ensures.1 in
    let e = c.in_err-skip_blank.field-0.0 in
    rw (is, from) (names_nothing (names_bytes c.args.variants.now) (named_state_of c.skip_blank.new.self) c.args.self.now e (refused_blanks c.args.self.now e c.in_err-skip_blank.ensures.refused) (λ h. (c.in_err-skip_blank.ensures.before h).0)
    (λ t r x live reads is. blanks_no_value c.args.self.now e t r (c.in_err-skip_blank.ensures.refused live) reads))

pub returns-in_err-variant-clause-names : goal.returns-in_err-variant-clause-names
returns-in_err-variant-clause-names g c =
    let (y, is, from) = err_from_is_err_and c.from_residual-in_err-variant.result c.from_residual-in_err-variant.ensures.1 in
    rw (is, from) (text_unnamed (names_bytes c.args.variants.now) c.args.self.now c.skip_blank.new.self c.in_ok-skip_blank.ensures.passed c.offset-start.result c.offset-start.ensures.counted (named_state_of c.deserialize_variant.new.self)
    c.deserialize_variant.new.self c.in_err-variant.field-0.0 (c.if-at_text.ensures.found refl) c.in_err-variant.ensures)

pub returns-then-at_text-clause-names : goal.returns-then-at_text-clause-names
returns-then-at_text-clause-names g c = text_named (names_bytes c.args.variants.now) c.args.self.now c.skip_blank.new.self c.in_ok-skip_blank.ensures.passed c.offset-start.result c.offset-start.ensures.counted (named_state_of c.deserialize_variant.new.self)
    c.deserialize_variant.new.self _ c.in_ok-variant.variant (c.if-at_text.ensures.found refl) refl c.in_ok-variant.ensures

pub returns-in_err-variant-2-clause-names : goal.returns-in_err-variant-2-clause-names
returns-in_err-variant-2-clause-names g c =
    let (y, is, from) = err_from_is_err_and c.from_residual-in_err-variant-2.result c.from_residual-in_err-variant-2.ensures.1 in
    rw (is, from) (object_unnamed (names_bytes c.args.variants.now) c.args.self.now c.skip_blank.new.self c.in_ok-skip_blank.ensures.passed c.offset-start.result c.offset-start.ensures.counted (named_state_of c.read_keyed_variant.new.self)
    c.read_keyed_variant.new.self c.in_err-variant-2.field-0.0 (c.if-at_object.ensures.found refl) c.in_err-variant-2.ensures)

pub returns-then-at_object-clause-names : goal.returns-then-at_object-clause-names
returns-then-at_object-clause-names g c = object_named (names_bytes c.args.variants.now) c.args.self.now c.skip_blank.new.self c.in_ok-skip_blank.ensures.passed c.offset-start.result c.offset-start.ensures.counted (named_state_of c.read_keyed_variant.new.self)
    c.read_keyed_variant.new.self _ c.in_ok-variant-2.variant (c.if-at_object.ensures.found refl) refl c.in_ok-variant-2.ensures

pub returns-clause-names : goal.returns-clause-names
returns-clause-names g c = no_name_begun (names_bytes c.args.variants.now) (named_state_of c.fail_unexpected.new.self) c.args.self.now c.skip_blank.new.self c.in_ok-skip_blank.ensures.passed c.fail_unexpected.result (c.if-at_text.ensures.other refl) (c.if-at_object.ensures.other refl) c.fail_unexpected.ensures.fault
