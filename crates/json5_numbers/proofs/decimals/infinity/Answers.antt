use Rattle.std.proofs.Common.{refl, ◌∙◌}
use lib.Ieee.{of_bits, neg}
use Rattle.json5_numbers.proofs.decimals.infinity.Goals as goal

pub returns-then-negative : goal.returns-then-negative
unfolding of_bits neg
returns-then-negative c = c.negated.ensures ∙ rw (c.if-negative.true, c.of_bits-size.ensures) refl

pub returns-else-negative : goal.returns-else-negative
unfolding of_bits
returns-else-negative c = c.of_bits-size.ensures ∙ rw c.if-negative.false refl
