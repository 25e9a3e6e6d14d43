use Rattle.std.proofs.Common.{refl, ap, sym, ◌∙◌}
use mathlib.Core.Bool.{true≢false}
use Rattle.std.specs.Str.{chars}
use Rattle.json5_grammar.specs.Language.Numbers.{whole}
use Rattle.json5_grammar.specs.Model.Reading.{got}
use Rattle.json5_tokens.specs.NumberParts.{parts_of}
use Rattle.json5_tokens.proofs.NumberSteps.{failed_here}
use Rattle.json5_tokens.proofs.DecimalLiteralValues.{judged_whole, not_whole}
use Rattle.json5_tokens.proofs.numbers.slices.judge.Goals as goal

pub returns-in-Some : goal.returns-in-Some
returns-in-Some c = λ rest.
    judged_whole (chars c.args.start.now) c.args.negative rest (parts_of c.args.literal.now).before (parts_of c.args.literal.now).after (parts_of c.args.literal.now).raised (c.in-Some.ensures.whole.0 refl)
    ∙ ap (λ z. got (whole z) rest) (sym c.in-Some.ensures.value)

pub finite_decimal-requires-clause-other : goal.finite_decimal-requires-clause-other
finite_decimal-requires-clause-other c = not_whole c.args.negative c.args.literal.now (λ h. true≢false (sym (c.in_default.ensures.whole.1 h)))

pub returns-in_default-finite_decimal : goal.returns-in_default-finite_decimal
returns-in_default-finite_decimal c = λ rest. record { refused = failed_here _ _ c.args.start.now c.utf8.start (c.in_default-finite_decimal.ensures (chars c.args.start.now) rest); known = tt }
