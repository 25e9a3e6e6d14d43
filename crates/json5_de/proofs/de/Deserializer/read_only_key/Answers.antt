use Rattle.std.proofs.Common.{refl}
use Rattle.std.specs.Prelude.{Ok, Err}
use Rattle.std.proofs.lemmas.Result.{err_from_is_err_and}
use Rattle.json5_de.specs.Convert.{names_bytes}
use Rattle.json5_de.specs.KeyKinds.{variant_key}
use Rattle.json5_de.proofs.FoundKeys.{not_found, variant_key_judged}
use Rattle.json5_de.proofs.VariantNames.{no_key_begun_faulty, no_key_begun_other, key_refused, colon_refused, only_key_read}
use Rattle.json5_de.proofs.de.Deserializer.read_only_key.Goals as goal

pub returns-in_err-skip_blank : goal.returns-in_err-skip_blank
returns-in_err-skip_blank g c =
    let (y, is, from) = err_from_is_err_and c.from_residual.result c.from_residual.ensures.1 in
    rw (is, from) (no_key_begun_faulty (names_bytes c.args.variants.now) c.args.self.now c.skip_blank.new.self c.in_err-skip_blank.field-0.0 c.in_err-skip_blank.ensures.refused c.in_err-skip_blank.ensures.failed c.in_err-skip_blank.ensures.unprompted)

pub returns-then-not-at_key : goal.returns-then-not-at_key
returns-then-not-at_key g c =
    no_key_begun_other (names_bytes c.args.variants.now) c.args.self.now c.skip_blank.new.self c.fail_unexpected.new.self c.fail_unexpected.result c.in_ok-skip_blank.ensures.passed (c.if-not-at_key.ensures.other refl) c.fail_unexpected.ensures.fault c.fail_unexpected.ensures.state

pub returns-in_err-key : goal.returns-in_err-key
returns-in_err-key g c =
    let (y, is, from) = err_from_is_err_and c.from_residual-in_err-key.result c.from_residual-in_err-key.ensures.1 in
    let e = c.in_err-key.ensures in
    rw (is, from) (key_refused (names_bytes c.args.variants.now) c.args.self.now c.skip_blank.new.self c.find_key.new.self c.in_err-key.field-0.0 c.in_ok-skip_blank.ensures.passed (c.if-not-at_key.ensures.found refl)
    (not_found (variant_key (names_bytes c.args.variants.now)) (λ n. n) c.skip_blank.new.self c.find_key.new.self c.in_err-key.field-0.0 e.refused e.complete e.failed e.before))

pub returns-in_err-variant : goal.returns-in_err-variant
returns-in_err-variant g c =
    let (y, is, from) = err_from_is_err_and c.from_residual-in_err-variant.result c.from_residual-in_err-variant.ensures.1 in
    rw (is, from) (key_refused (names_bytes c.args.variants.now) c.args.self.now c.skip_blank.new.self c.variant_of.new.self c.in_err-variant.field-0.0 c.in_ok-skip_blank.ensures.passed (c.if-not-at_key.ensures.found refl)
    (variant_key_judged (names_bytes c.args.variants.now) c.skip_blank.new.self c.find_key.new.self c.variant_of.new.self c.in_ok-key.key (Err c.in_err-variant.field-0.0) c.in_ok-key.ensures.taken c.in_err-variant.ensures))

pub returns-in_err-pass_colon : goal.returns-in_err-pass_colon
returns-in_err-pass_colon g c =
    let (y, is, from) = err_from_is_err_and c.from_residual-in_err-pass_colon.result c.from_residual-in_err-pass_colon.ensures.1 in
    let e = c.in_err-pass_colon.ensures in
    let read = variant_key_judged (names_bytes c.args.variants.now) c.skip_blank.new.self c.find_key.new.self c.variant_of.new.self c.in_ok-key.key (Ok c.in_ok-variant.variant) c.in_ok-key.ensures.taken c.in_ok-variant.ensures in
    rw (is, from) (colon_refused (names_bytes c.args.variants.now) c.args.self.now c.skip_blank.new.self c.variant_of.new.self c.pass_colon.new.self c.in_ok-variant.variant c.in_ok-skip_blank.ensures.passed read.sound c.in_err-pass_colon.field-0.0 e.refused e.complete e.failed e.steady.unprompted)

pub returns : goal.returns
returns g c =
    let read = variant_key_judged (names_bytes c.args.variants.now) c.skip_blank.new.self c.find_key.new.self c.variant_of.new.self c.in_ok-key.key (Ok c.in_ok-variant.variant) c.in_ok-key.ensures.taken c.in_ok-variant.ensures in
    only_key_read (names_bytes c.args.variants.now) c.args.self.now c.skip_blank.new.self c.variant_of.new.self c.pass_colon.new.self c.in_ok-variant.variant c.in_ok-skip_blank.ensures.passed read.sound c.in_ok-pass_colon.ensures.passed
