use Rattle.std.proofs.Common.{refl}
use Rattle.std.proofs.lemmas.Result.{err_from_is_err_and}
use Rattle.json5_de.specs.Convert.{names_bytes}
use Rattle.json5_de.specs.Lending.{enum_state_of, named_state_of}
use Rattle.json5_de.proofs.BracketSteps.{failed_of}
use Rattle.json5_de.proofs.VariantNames.{named_seen, unnamed_seen, lent_name}
use Rattle.json5_de.proofs.de.Deserializer.deserialize_enum.Goals as goal

pub returns-in_err-name : goal.returns-in_err-name
returns-in_err-name g c =
    let (y, is, from) = err_from_is_err_and c.from_residual.result c.from_residual.ensures.1 in
    rw (is, from) (
      (refl, λ w. tt, c.in_err-name.ensures.failed),
      (tt, (tt, unnamed_seen (names_bytes c.args.variants.now) _ enum_state_of c.args.self.now c.in_err-name.field-0.0 c.in_err-name.ensures.names)),
    )

pub returns : goal.returns
returns g c =
    let names = c.in_ok-name.ensures.names in
    let state_of = named_state_of c.named.new.self c.in_ok-name.name in (
      (refl, λ w. refl, tt),
      (refl, (failed_of c.set_failed.ensures, named_seen (names_bytes c.args.variants.now) _ enum_state_of c.args.self.now c.in_ok-name.name _ (lent_name (names_bytes c.args.variants.now) c.args.self.now state_of c.set_failed.new.self names.read c.set_failed.ensures) names)),
    )
