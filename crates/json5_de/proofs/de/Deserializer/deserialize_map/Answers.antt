use Rattle.std.proofs.Common.{refl}
use Rattle.std.proofs.lemmas.Result.{err_from_is_err_and}
use Rattle.json5_read.specs.Brackets.{curly}
use Rattle.json5_de.specs.Lending.{map_state_of}
use Rattle.json5_de.proofs.BracketSteps.{failed_of}
use Rattle.json5_de.proofs.AccessCalls.{opened_seen}
use Rattle.json5_de.proofs.ObjectMembers.{opens_map, refuses_map}
use Rattle.json5_de.proofs.de.Deserializer.deserialize_map.Goals as goal

pub returns-in_err-start : goal.returns-in_err-start
returns-in_err-start g c =
    let (y, is, from) = err_from_is_err_and c.from_residual.result c.from_residual.ensures.1 in
    rw (is, from) (
      (refl, λ w. tt, c.in_err-start.ensures.failed),
      record { lends = tt; opens = refuses_map _ map_state_of c.args.self.now c.in_err-start.field-0.0 c.in_err-start.ensures.opens },
    )

pub returns : goal.returns
returns g c =
    let opens = c.in_ok-start.ensures.opens in
    let (opened, comma_due) = opens.opened in
    rw c.new.ensures (
      (refl, λ w. refl, tt),
      record {
        lends = tt;
        opens = opens_map _ map_state_of c.args.self.now c.in_ok-start.start _ (record { same_reference = refl; blocks = failed_of c.set_failed.ensures; closes = refl }) (opened_seen curly c.args.self.now c.open.new.self c.set_failed.new.self c.in_ok-start.start opened c.set_failed.ensures) refl opens;
      },
    )
