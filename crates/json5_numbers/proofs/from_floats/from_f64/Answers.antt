use Rattle.std.proofs.Common.{ap, sym, ◌∙◌}
use Rattle.std.specs.Float.{binary64}
use Rattle.std.specs.Float.Ieee.{inf}
use Rattle.json5_numbers.specs.Floats.{nearest_to}
use Rattle.json5_numbers.proofs.PrintedFloats.{nan_is, infinite_is, finite_is}
use Rattle.json5_numbers.proofs.from_floats.from_f64.Goals as goal

pub returns-then-is_nan : goal.returns-then-is_nan
returns-then-is_nan c = ap (nearest_to binary64) c.nan.ensures ∙ nan_is c.args.number (sym c.is_nan.ensures.value ∙ c.if-is_nan.true)

pub returns-then-is_infinite : goal.returns-then-is_infinite
returns-then-is_infinite c = ap (nearest_to binary64) c.infinity.ensures ∙ ap inf c.is_sign_negative.ensures ∙ infinite_is c.args.number (sym c.is_infinite.ensures.value ∙ c.if-is_infinite.true)

pub from_finite-requires : goal.from_finite-requires
from_finite-requires c = finite_is c.args.number (sym c.is_nan.ensures.value ∙ c.if-is_nan.false) (sym c.is_infinite.ensures.value ∙ c.if-is_infinite.false)
