use Rattle.std.proofs.Common.{rules, sym, ap, w32}
use Rattle.std.proofs.lemmas.Int.{to_z-of_z}
use Rattle.json5.proofs.OwnEnums.{one_read}
use Rattle.rows.specs.OwnEnums.{a_y}
use Rattle.rows.proofs.own_enums.read_y.Goals as goal

pub returns : goal.returns
returns g c = one_read a_y c.in_ok-number.ensures (ap a_y (sym (to_z-of_z w32 c.in_ok-number.number (search rules))))
