use Rattle.std.proofs.Common.{sym, ◌∙◌}
use Rattle.json5_ser.proofs.SpelledKeys.{minus_no_name, infinite_is_name, nan_is_name}
use Rattle.json5_ser.proofs.ser.numbers.is_decimal_identifier.Goals as goal

pub returns-then-is_negative-clause-name : goal.returns-then-is_negative-clause-name
returns-then-is_negative-clause-name c = sym (minus_no_name _ _ c.is_negative.ensures.normal c.is_negative.ensures.value c.if-is_negative.true)

pub returns-then-is_infinite-clause-name : goal.returns-then-is_infinite-clause-name
returns-then-is_infinite-clause-name c = c.if-is_infinite.true ∙ sym (infinite_is_name _ _ _ c.is_negative.ensures.normal c.is_negative.ensures.value c.if-is_negative.false c.is_infinite.ensures c.if-is_infinite.true)

pub returns-else-is_infinite-clause-name : goal.returns-else-is_infinite-clause-name
returns-else-is_infinite-clause-name c = sym (nan_is_name _ _ _ _ c.is_negative.ensures.normal c.is_negative.ensures.value c.if-is_negative.false c.is_infinite.ensures c.if-is_infinite.false c.is_nan.ensures)
