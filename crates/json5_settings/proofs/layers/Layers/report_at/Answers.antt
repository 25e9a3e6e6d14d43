use Rattle.std.proofs.Common.{◌≡◌, ◌∷◌, length, rules, subst}
use Rattle.std.specs.Prelude.{MatchOption}
use Rattle.json5_edit.specs.Places.{LeadsNowhere}
use Rattle.json5_settings.specs.Texts.{layer_of}
use Rattle.json5_settings.specs.Told.{AllLack, IsToldAt, IsToldIn}
use Rattle.json5_settings.proofs.Told.{lacks_one, none_left, one_less, told_last}
use Rattle.json5_settings.proofs.layers.Layers.report_at.Goals as goal

pub loop-layer-preserved : goal.loop-layer-preserved
loop-layer-preserved c =
    let l = c.loop-layer in
    let layer = c.in-Some.layer.now in
    let text = c.as_str-text.result.now in
    let none = subst (λ r. MatchOption r (LeadsNowhere text c.args.steps.now) (IsToldAt c.args.steps.now c.args.at_key (c.as_str-name.result.now, text))) c.in-None.is c.in_ok-report.ensures in (
      layer_of layer ∷ l.invariant.0,
      one_less l.left.now c.in-Some.earlier.now layer _ l.invariant.0 c.in-Some.ensures.cases.0 l.invariant.1,
      lacks_one c.args.steps.now layer c.as_str-name.result.now text l.invariant.0 c.as_str-text.ensures.value none l.invariant.2,
    )

pub returns-in-Some-2 : goal.returns-in-Some-2
returns-in-Some-2 c =
    let l = c.loop-layer in
    let name = c.as_str-name.result.now in
    let text = c.as_str-text.result.now in
    let there = subst (λ r. MatchOption r (LeadsNowhere text c.args.steps.now) (IsToldAt c.args.steps.now c.args.at_key (name, text))) c.in-Some-2.is c.in_ok-report.ensures in
    subst (λ z. IsToldIn c.args.steps.now c.args.at_key z c.in-Some-2.report) c.self.view_is
    (told_last c.args.steps.now c.args.at_key l.left.now c.in-Some.earlier.now c.in-Some.layer.now name text _ l.invariant.0 c.in-Some-2.report c.in-Some.ensures.cases.0 c.as_str-name.ensures.value c.as_str-text.ensures.value l.invariant.1 l.invariant.2 there)

pub returns : goal.returns
returns c =
    let l = c.loop-layer in
    let none : length l.left.now ≡ 0 = search rules in
    subst (AllLack c.args.steps.now) c.self.view_is (none_left c.args.steps.now l.left.now _ l.invariant.0 none l.invariant.1 l.invariant.2)
