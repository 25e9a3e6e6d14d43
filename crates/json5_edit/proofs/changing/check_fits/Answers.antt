use Rattle.std.proofs.Common.{◌≡◌, ◌-◌, subst, arith}
use Rattle.std.specs.Str.{chars}
use Rattle.json5_edit.specs.Places.{IsValue}
use Rattle.json5_edit.proofs.changing.check_fits.Goals as goal

pub returns : goal.returns
returns c =
    let same : c.args.room - 0 ≡ c.args.room = omega arith in
    subst (λ n. IsValue n (chars c.args.new.now)) same c.in_ok-check_value.ensures.value
