use Rattle.std.proofs.Common.{arith, ◌∙◌, length, ap, sym}
use Rattle.json5_types.proofs.NumberZeros.{back, back_taken, back_shorter, each_back, length-take_most}
use Rattle.json5_types.proofs.inline_digits.InlineDigits.trim_back_zeros.Goals as goal

pub overflow_cast-self : goal.overflow_cast-self
overflow_cast-self c = omega (arith, back_shorter c.as_str.result.now, ap length c.without_back_zeros.ensures, ap length (c.as_str.ensures.same ∙ sym c.self.view_is), length-take_most c.self.inside.len c.self.inside.bytes, c.self.invariant.0)

pub invariant_of-self : goal.invariant_of-self
invariant_of-self c = (
  omega (arith, back_shorter c.as_str.result.now, ap length c.without_back_zeros.ensures, ap length (c.as_str.ensures.same ∙ sym c.self.view_is), length-take_most c.self.inside.len c.self.inside.bytes, c.self.invariant.0),
  rw (back_taken c.as_str.result.now c.without_back_zeros.result.now c.self.inside.bytes c.self.inside.len (c.as_str.ensures.same ∙ sym c.self.view_is) c.without_back_zeros.ensures) (each_back c.as_str.ensures.digits),
)

pub returns : goal.returns
returns c = back_taken c.as_str.result.now c.without_back_zeros.result.now c.self.inside.bytes c.self.inside.len (c.as_str.ensures.same ∙ sym c.self.view_is) c.without_back_zeros.ensures ∙ ap back c.as_str.ensures.same
