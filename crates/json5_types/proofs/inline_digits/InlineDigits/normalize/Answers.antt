use Rattle.std.proofs.Common.{arith, ap, length, subst}
use Rattle.std.proofs.lemmas.Int.{to_z-of_z}
use mir.Syntax.{w128}
use Rattle.json5_grammar.specs.Language.Characters.{Each, is_digit}
use Rattle.json5_types.proofs.NumberZeros.{back_shorter, normalizes}
use Rattle.json5_types.proofs.inline_digits.InlineDigits.normalize.Goals as goal

pub bare_exponent-requires-clause-fewer : goal.bare_exponent-requires-clause-fewer
bare_exponent-requires-clause-fewer c = omega (arith, back_shorter c.args.self.now, ap length c.as_str-count.ensures.same, ap length c.as_str.ensures.same, ap length c.trim_back_zeros.ensures)

pub returns : goal.returns
returns c =
    let s = to_z-of_z w128 c.args.exponent c.ranges.exponent in
    let a = ap length c.as_str-count.ensures.same in
    let b = ap length c.as_str.ensures.same in
    let found = c.bare_exponent.ensures in
    normalizes c.args.self.now c.trim_back_zeros.new.self c.args.exponent c.bare_exponent.result (subst (Each is_digit) c.as_str-count.ensures.same c.as_str-count.ensures.digits) c.requires.front c.trim_back_zeros.ensures (rw (s, a, b) at found.in_range) (rw (s, a, b) at found.value)
