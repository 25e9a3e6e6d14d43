use Rattle.std.proofs.Common.{◌≤◌, ◌∙◌, ◌+◌, ◌*◌, ◌^◌, ap, arith, sym}
use Rattle.std.specs.Str.Parse.{digits_value}
use Rattle.json5_settings_types.specs.Sums.{comes_to, goes_on}
use Rattle.json5_settings_types.proofs.SumsRead.{cut_numeral, cut_overflows, cut_passes, cut_takes}
use Rattle.json5_settings_types.proofs.sums.Sum.with.Goals as goal

pub returns-then-not-is_part : goal.returns-then-not-is_part
returns-then-not-is_part c = λ us. cut_passes c.front_part.ensures us c.args.unit.now.name.now c.args.unit.now.size c.args.self.total (sym c.is_part.ensures ∙ c.if-not-is_part.true)

pub added-requires-clause-numeral : goal.added-requires-clause-numeral
added-requires-clause-numeral c = cut_numeral c.args.unit.now.name.now c.front_part.ensures (sym c.is_part.ensures ∙ c.if-not-is_part.false)

pub returns-in_err-total : goal.returns-in_err-total
returns-in_err-total c = λ us.
    let much : 2 ^ 64 ≤ c.args.self.total + digits_value 10 c.front_part.result.0.now * c.args.unit.now.size = omega (arith, c.in_err-total.ensures) in
    ap (goes_on us) c.from_residual.ensures ∙ cut_overflows c.front_part.ensures us c.args.unit.now.name.now c.args.unit.now.size c.args.self.total (sym c.is_part.ensures ∙ c.if-not-is_part.false) much

pub returns : goal.returns
returns c = λ us.
    ap (λ total. comes_to us total c.front_part.result.2.now) c.in_ok-total.ensures.1
    ∙ cut_takes c.front_part.ensures us c.args.unit.now.name.now c.args.unit.now.size c.args.self.total (sym c.is_part.ensures ∙ c.if-not-is_part.false)
