use Rattle.std.proofs.Common.{subst}
use Rattle.std.specs.Prelude.{MatchOption}
use Rattle.json5_settings.specs.Told.{AllLack, IsToldIn}
use Rattle.json5_settings.proofs.Told.{told_so}
use Rattle.json5_settings.proofs.layers.Layers.report.Goals as goal

pub returns-in-Some-2 : goal.returns-in-Some-2
returns-in-Some-2 c =
    let steps = c.as_slice.result.now in
    let told = subst (λ r. MatchOption r (AllLack steps c.args.self.now) (IsToldIn steps c.in-Some.spot.at_key c.args.self.now)) c.in-Some-2.is c.in_ok-report.ensures in
    told_so c.args.text.now c.args.error.now c.args.self.now steps c.in-Some.spot.at_key c.in-Some-2.report c.in_ok-told.told c.nearer.result c.in_ok-told.ensures told c.nearer.ensures
