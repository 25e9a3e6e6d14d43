use Rattle.std.proofs.Common.{rules, Some, refl, ap, sym, ◌∙◌, inl}
use Rattle.std.proofs.lemmas.Result.{err_from_is_err_and}
use Rattle.json5_grammar.specs.Language.Trees as trees
use Rattle.json5_grammar.specs.Language.Values.{is_number}
use Rattle.json5_types.specs.NumberMeanings.{number_of}
use Rattle.json5_de.specs.Convert.{every_decimal}
use Rattle.json5_de.specs.Faults.{faulty_number}
use Rattle.json5_de.proofs.ReadSteps.{took_leaf, refused_or_memory}
use Rattle.json5_de.specs.TokenKinds.{decimal_kind}
use Rattle.json5_de.proofs.TokenKinds.{lawful_decimal, not_begun, refuses_value, reads_ok}
use Rattle.json5_de.proofs.de.Deserializer.deserialize_decimal.Goals as goal

pub returns-in_err-skip_blank : goal.returns-in_err-skip_blank
returns-in_err-skip_blank g c =
    rw (← c.in_default.ensures) (
    let (y, is, from) = err_from_is_err_and c.from_residual.result c.from_residual.ensures.1 in
    rw (is, from) (not_begun lawful_decimal (λ d. d) c.short_decimal.new.self c.skip_blank.new.self c.in_err-skip_blank.field-0.0 c.in_err-skip_blank.ensures.refused c.in_err-skip_blank.ensures.failed c.in_err-skip_blank.ensures.before))

pub returns-in_err-decimal : goal.returns-in_err-decimal
returns-in_err-decimal g c =
    rw (← c.in_default.ensures) (
    let (y, is, from) = err_from_is_err_and c.from_residual-in_err-decimal.result c.from_residual-in_err-decimal.ensures.1 in
    rw (is, from) (refuses_value lawful_decimal refl (λ t. refl) (λ d. d) c.short_decimal.new.self c.skip_blank.new.self c.number.new.self c.in_err-decimal.field-0.0 c.in_ok-skip_blank.ensures.passed
    (refused_or_memory c.short_decimal.new.self c.skip_blank.new.self c.in_err-decimal.field-0.0 (λ x reason place f. faulty_number f) c.in_ok-skip_blank.ensures.passed c.in_err-decimal.ensures.refused)
    c.in_err-decimal.ensures.failed))

pub returns-in-Decimal : goal.returns-in-Decimal
returns-in-Decimal g c =
    rw (← c.in_default.ensures) (
    let (s, took, num, stops) = c.in_ok-decimal.ensures.taken in
    let n = number_of c.in_ok-decimal.field-0 in
    reads_ok decimal_kind (λ d. d) c.short_decimal.new.self c.number.new.self _
    (trees.number n, took_leaf c.short_decimal.new.self c.skip_blank.new.self c.number.new.self s (trees.number n) refl c.in_ok-skip_blank.ensures.passed took (is_number num) stops, ap (λ m. every_decimal (number_of m)) c.in-Decimal.is))

pub returns-in-Ok : goal.returns-in-Ok
returns-in-Ok g c =
    rw (← c.in_default.ensures) (
    let (s, took, num, stops) = c.in_ok-decimal.ensures.taken in
    let n = number_of c.in_ok-decimal.field-0 in
    reads_ok decimal_kind (λ d. d) c.short_decimal.new.self c.number.new.self _ (
      trees.number n,
      took_leaf c.short_decimal.new.self c.skip_blank.new.self c.number.new.self s (trees.number n) refl c.in_ok-skip_blank.ensures.passed took (is_number num) stops,
      ap (λ m. every_decimal (number_of m)) c.in-Whole.is ∙ ap Some (sym c.in-Ok.ensures.ok),
    ))

pub returns-in-Err : goal.returns-in-Err
returns-in-Err g c = rw (← c.in_default.ensures) (rw c.refuse.ensures.result (refuses_value lawful_decimal refl (λ t. refl) (λ d. d) c.short_decimal.new.self c.skip_blank.new.self c.refuse.new.self c.in-Err.e c.in_ok-skip_blank.ensures.passed (inl c.in-Err.ensures.err) (search rules)))
