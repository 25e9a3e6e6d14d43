use Rattle.std.proofs.Common.{false, inl, inr, subst}
use Rattle.std.specs.Prelude.{MatchOption}
use Rattle.json5_edit.specs.Places.{LeadsNowhere}
use Rattle.json5_settings.specs.Told.{IsToldAt}
use Rattle.json5_settings.proofs.origin.fault.Goals as goal

pub returns-in-Some : goal.returns-in-Some
returns-in-Some c =
    let steps = c.as_slice.result.now in
    (steps, inl (subst (λ r. MatchOption r (LeadsNowhere c.args.text.now steps) (IsToldAt steps false (c.args.name.now, c.args.text.now))) c.in-Some.is c.in_ok-report.ensures))

pub returns : goal.returns
returns c =
    let steps = c.as_slice.result.now in
    let none = subst (λ r. MatchOption r (LeadsNowhere c.args.text.now steps) (IsToldAt steps false (c.args.name.now, c.args.text.now))) c.in-None.is c.in_ok-report.ensures in
    (steps, inr (none, (c.in_ok-error.error, c.in_ok-error.ensures, c.in_ok-new-in-None.ensures)))
