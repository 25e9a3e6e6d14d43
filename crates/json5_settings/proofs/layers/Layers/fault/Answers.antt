use Rattle.std.proofs.Common.{false, inl, inr, subst, sym}
use Rattle.std.specs.Prelude.{MatchOption}
use Rattle.std.specs.Str.{chars}
use Rattle.json5_settings.specs.Stacks.{IsTextOfAll}
use Rattle.json5_settings.specs.Told.{AllLack, IsToldIn}
use Rattle.json5_settings.proofs.layers.Layers.fault.Goals as goal

pub returns-in-Some : goal.returns-in-Some
returns-in-Some c =
    let steps = c.as_slice.result.now in
    (steps, inl (subst (λ r. MatchOption r (AllLack steps c.args.self.now) (IsToldIn steps false c.args.self.now)) c.in-Some.is c.in_ok-report.ensures))

pub returns : goal.returns
returns c =
    let steps = c.as_slice.result.now in
    let none = subst (λ r. MatchOption r (AllLack steps c.args.self.now) (IsToldIn steps false c.args.self.now)) c.in-None.is c.in_ok-report.ensures in
    let all = subst (λ z. IsTextOfAll c.args.self.now (chars z)) (sym c.deref-in-None.ensures) c.in_ok-text.ensures in
    (steps, inr (none, (c.deref-in-None.result.now, c.in_ok-error.error, all, c.in_ok-error.ensures, c.in_ok-new-in-None.ensures)))
