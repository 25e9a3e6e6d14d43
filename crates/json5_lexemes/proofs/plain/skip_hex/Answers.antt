use Rattle.std.proofs.Common.{◌≡◌, sym, subst}
use Rattle.std.specs.Prelude.{◌↔◌}
use Rattle.std.specs.Str.{chars}
use Rattle.json5_lexemes.specs.PlainSteps.{TakesHex}
use Rattle.json5_lexemes.proofs.PlainTakes.{no_hex, hex_ends, hex_stops}
use Rattle.json5_lexemes.proofs.plain.skip_hex.Goals as goal

pub returns-in_default : goal.returns-in_default
returns-in_default c = λ r t. no_hex r (subst (λ z. TakesHex z r) c.in_default.ensures t)

pub returns-then-is_hex_digit : goal.returns-then-is_hex_digit
returns-then-is_hex_digit c = λ r. subst (λ z. TakesHex z r ↔ (r ≡ chars c.in-Some.after.now)) (sym c.in-Some.ensures.chars) (hex_ends c.in-Some.c _ r (sym c.if-is_hex_digit.ensures))

pub returns-else-is_hex_digit : goal.returns-else-is_hex_digit
returns-else-is_hex_digit c = λ r t. hex_stops c.in-Some.c (chars c.in-Some.after.now) r (sym c.if-is_hex_digit.ensures) (subst (λ z. TakesHex z r) c.in-Some.ensures.chars t)
