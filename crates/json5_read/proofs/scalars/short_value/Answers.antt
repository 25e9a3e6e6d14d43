use Rattle.std.proofs.Common.{◌≡◌, ◌∙◌, ap, arith, sym}
use Rattle.std.proofs.lemmas.Int.{ints, to_z-of_z}
use mir.Syntax.{w128}
use mir.Val.{to_z, of_z}
use Rattle.json5_grammar.specs.Language.Numbers.{whole, decimal}
use Rattle.json5_types.specs.declared.value.Value as value
use Rattle.json5_types.specs.ValueMeanings as datum
use Rattle.json5_read.specs.Opening.{AtKind}
use Rattle.json5_read.specs.declared.kinds.ValueKind.TheVariants as kind
use Rattle.json5_read.proofs.BuildScalars.{datum_kept, literal_taken}
use Rattle.json5_read.proofs.ShortEntries.{kind_front, number_kept, string_kept}
use Rattle.json5_read.proofs.TakenElements.{view_decimal, view_whole}
use Rattle.json5_read.proofs.scalars.short_value.Goals as goal

pub returns-then-short_literal : goal.returns-then-short_literal
returns-then-short_literal g c room =
    datum_kept room c.args.scanner.now c.short_literal.new.scanner c.value_of_literal.result
    (literal_taken room c.args.scanner.now c.short_literal.new.scanner c.in-Literal.literal c.value_of_literal.result (rw c.if-short_literal.true at c.short_literal.ensures) c.value_of_literal.ensures)

pub returns-in_ok-text-in-String : goal.returns-in_ok-text-in-String
returns-in_ok-text-in-String g c room =
    let text = c.in_ok-text-in-String.text in
    let here : AtKind kind.String c.args.scanner.now = record { char = c.args.c; ready = c.requires.ready; first = c.requires.first; is = sym c.kind_at.ensures ∙ c.in-String.is } in
    datum_kept room c.args.scanner.now c.short_string_owned.new.self (value.String text)
    (string_kept room c.args.scanner.now c.short_string_owned.new.self text here c.offset-offset.ensures.scalars c.in_ok-text-in-String.ensures)

pub returns-in-Some : goal.returns-in-Some
returns-in-Some g c room =
    let k = rw c.in-Some.is at c.short_whole.ensures in
    let low = k.low in
    let high = k.high in
    let z = c.in-Some.number in
    let stored : to_z w128 (of_z w128 z) ≡ z = to_z-of_z w128 z (omega (arith, ints, low, high)) in
    let here : AtKind kind.Number c.args.scanner.now = record { char = c.args.c; ready = c.requires.ready; first = c.requires.first; is = sym c.kind_at.ensures ∙ c.in-Number.is } in
    datum_kept room c.args.scanner.now c.short_whole.new.self (value.Whole c.from_i128.result)
    (number_kept room c.args.scanner.now c.short_whole.new.self (whole z) (value.Whole c.from_i128.result) here k.took (view_whole c.from_i128.result ∙ ap (λ n. datum.number (whole n)) (c.from_i128.ensures ∙ stored)))

pub returns-in_ok-decimal-in-None : goal.returns-in_ok-decimal-in-None
returns-in_ok-decimal-in-None g c room =
    let number = c.in_ok-decimal-in-None.decimal in
    let now = c.short_whole.new.self in
    let same = rw c.in-None.is at c.short_whole.ensures in
    let here : AtKind kind.Number c.args.scanner.now = record { char = c.args.c; ready = c.requires.ready; first = c.requires.first; is = sym c.kind_at.ensures ∙ c.in-Number.is } in
    rw (← same) (datum_kept room now c.short_decimal.new.scanner (value.Decimal number)
    (number_kept room now c.short_decimal.new.scanner (decimal number) (value.Decimal number) (kind_front kind.Number c.args.scanner.now now same here) c.in_ok-decimal-in-None.ensures (view_decimal number)))
