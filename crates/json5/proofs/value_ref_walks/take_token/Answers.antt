use Rattle.std.proofs.Common.{refl}
use Rattle.json5_types.specs.NumberMeanings.{number_of}
use Rattle.json5_walk.specs.Walks.{TookNumber, TookString}
use Rattle.json5.specs.ValueRefs.{ref_of}
use Rattle.json5.specs.ValueRefWalks.{TakesMeaning}
use Rattle.json5.proofs.RefsRead.{from_kept, if_ok, long_text, on_ok, short_decimal, took_literal, took_number}
use Rattle.json5.proofs.value_ref_walks.take_token.Goals as goal

pub returns-in_ok-ok-in-Literal : goal.returns-in_ok-ok-in-Literal
returns-in_ok-ok-in-Literal c =
    let took = on_ok c.literal.result c.in_ok-ok-in-Literal.field-0 c.in_ok-ok-in-Literal.ensures.value c.literal.ensures.taken in
    took_literal c.in-Literal.literal c.value_of_literal.result c.value_of_literal.ensures took.moved

pub returns-in_ok-ok-in-String : goal.returns-in_ok-ok-in-String
returns-in_ok-ok-in-String c =
    let text = c.in_ok-ok-in-String.field-0 in
    long_text text (if_ok (λ s. TookString s c.args.walk.now c.string.new.self) c.string.result text c.in_ok-ok-in-String.ensures.value c.string.ensures.taken)

pub returns-in-Some : goal.returns-in-Some
returns-in-Some c = short_decimal c.in-Some.number refl c.in-Some.ensures

pub returns-in_ok-ok-in-None : goal.returns-in_ok-ok-in-None
returns-in_ok-ok-in-None c =
    let n = c.in_ok-ok-in-None.field-0 in
    let took = if_ok (λ m. TookNumber (number_of m) c.short_decimal.new.self c.number.new.self) c.number.result n c.in_ok-ok-in-None.ensures.value c.number.ensures.taken in
    from_kept (TakesMeaning (ref_of c.value_of_number.result)) c.in-None.ensures (took_number (number_of n) c.value_of_number.result c.value_of_number.ensures took)
