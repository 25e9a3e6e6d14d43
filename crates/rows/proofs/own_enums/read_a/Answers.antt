use Rattle.std.proofs.Common.{refl}
use Rattle.json5.proofs.OwnEnums.{one_read}
use Rattle.rows.specs.OwnEnums.{an_a}
use Rattle.rows.proofs.own_enums.read_a.Goals as goal

pub returns : goal.returns
returns g c = one_read (λ none. an_a) c.in_ok-unit_variant.ensures refl
