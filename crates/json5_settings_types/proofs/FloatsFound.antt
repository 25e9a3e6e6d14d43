-- Floats that aren't finite.
use Rattle.std.proofs.Common.{◌≡◌, ◌∙◌, Bool, false, None, ap, refl, sym}
use Rattle.std.specs.Float.{binary64, float_is_finite}
use Rattle.std.specs.Float.Ieee.{Float}
use Rattle.json5_grammar.specs.Language.Numbers.{Decimal}
use Rattle.json5_numbers.specs.Floats.{nearest_to}
use Rattle.json5_settings_types.specs.Floats.{nearest_if_finite}

pub none_finite : (d : Decimal) (x : Float) (b : Bool) → x ≡ nearest_to binary64 d → b ≡ float_is_finite x → b ≡ false → nearest_if_finite d ≡ None
none_finite d x b near is not = let infinite : float_is_finite (nearest_to binary64 d) ≡ false = ap float_is_finite (sym near) ∙ sym is ∙ not in rw infinite refl
