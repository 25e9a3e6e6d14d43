use Rattle.std.proofs.Common.{refl}
use Rattle.json5.proofs.OwnEnums.{one_read}
use Rattle.rows.specs.OwnEnums.{a_c}
use Rattle.rows.proofs.own_enums.read_c.Goals as goal

pub returns : goal.returns
returns g c = one_read (λ u. a_c) c.in_ok-unit.ensures refl
