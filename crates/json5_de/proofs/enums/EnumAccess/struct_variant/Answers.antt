use Rattle.std.proofs.Common.{refl}
use Rattle.std.proofs.lemmas.Result.{err_from_is_err_and}
use Rattle.json5_read.specs.Brackets.{curly}
use Rattle.json5_de.specs.Lending.{map_state_of, enum_state_of, reader_of_enum}
use Rattle.json5_de.proofs.BracketSteps.{failed_of}
use Rattle.json5_de.proofs.AccessCalls.{opened_seen}
use Rattle.json5_de.proofs.VariantBrackets.{struct_opened, struct_not_opened, given_up_lent}
use Rattle.json5_de.proofs.enums.EnumAccess.struct_variant.Goals as goal

pub returns-in_err-start : goal.returns-in_err-start
returns-in_err-start g c =
    let (y, is, from) = err_from_is_err_and c.from_residual.result c.from_residual.ensures.1 in
    let opens = rw c.set_failed.ensures at c.in_err-start.ensures.opens in
    rw (is, from) (
      (refl, λ w. tt, given_up_lent (reader_of_enum c.args.self) c.set_failed.new.self c.open_content.new.self c.set_failed.ensures c.in_err-start.ensures.failed),
      record { lends = tt; held = tt; opens = struct_not_opened _ map_state_of (enum_state_of c.args.self) c.in_err-start.field-0.0 opens },
    )

pub returns : goal.returns
returns g c =
    let opens = rw c.set_failed.ensures at c.in_ok-start.ensures.opens in
    let (opened, comma_due) = opens.opened in
    rw c.new.ensures (
      (refl, λ w. refl, tt),
      record {
        lends = tt;
        held = record { same_reference = refl; blocks = failed_of c.set_failed-2.ensures; closes = refl };
        opens = struct_opened _ map_state_of (enum_state_of c.args.self) c.in_ok-start.start _ (opened_seen curly (enum_state_of c.args.self).reader c.open_content.new.self c.set_failed-2.new.self c.in_ok-start.start opened c.set_failed-2.ensures) refl opens;
      },
    )
