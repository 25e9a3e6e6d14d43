use Rattle.std.proofs.Common.{refl}
use Rattle.json5.proofs.OwnEnums.{one_read}
use Rattle.rows.specs.OwnEnums.{a_b}
use Rattle.rows.proofs.own_enums.read_b.Goals as goal

pub returns : goal.returns
returns g c = one_read (λ none. a_b) c.in_ok-unit_variant.ensures refl
