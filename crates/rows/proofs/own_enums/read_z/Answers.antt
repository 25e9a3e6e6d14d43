use Rattle.std.proofs.Common.{refl}
use Rattle.json5.proofs.OwnEnums.{one_read}
use Rattle.rows.specs.OwnEnums.{a_z}
use Rattle.rows.proofs.own_enums.read_z.Goals as goal

pub returns : goal.returns
returns g c = one_read (λ none. a_z) c.in_ok-unit_variant.ensures refl
