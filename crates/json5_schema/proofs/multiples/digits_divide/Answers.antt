use Rattle.std.proofs.Common.{◌≡◌, ◌∙◌, ◌*◌, ◌^◌, ◌%◌, ℕ, nat_eq, false, ap, arith}
use Rattle.std.proofs.lemmas.Bool.Decides.{nat_tests}
use Rattle.std.proofs.lemmas.Int.{ints}
use Rattle.json5_types.proofs.NumberZeros.{held}
use Rattle.json5_schema.proofs.Remainders.{divides_up, divides_down, none_long}
use Rattle.json5_schema.proofs.multiples.digits_divide.Goals as goal

pub returns-in-Some : goal.returns-in-Some
returns-in-Some c =
    let number = c.in_ok-number.number in
    let some : nat_eq number 0 ≡ false = grind (arith, nat_tests, c.if-number-eq0.false) in
    let e = held c.args.exponent c.requires.digits.in_range in
    let g = held c.args.power c.requires.divisor.in_range in
    divides_up c.args.divisor.now c.args.power c.args.digits.now c.args.exponent c.in-Some.zeros c.with_zeros.result number c.in_ok-number.ensures.value some (omega (arith, ints, c.in-Some.ensures, e, g))
    (c.with_zeros.ensures ∙ ap (λ (n : ℕ). n * 10 ^ c.in-Some.zeros % number) c.remainder.ensures)

pub returns-in-None : goal.returns-in-None
returns-in-None c =
    let number = c.in_ok-number.number in
    let some : nat_eq number 0 ≡ false = grind (arith, nat_tests, c.if-number-eq0.false) in
    let e = held c.args.exponent c.requires.digits.in_range in
    let g = held c.args.power c.requires.divisor.in_range in
    c.is_empty.ensures ∙ (none_long c.args.digits.now ∙ divides_down c.args.divisor.now c.args.power c.args.digits.now c.args.exponent number c.in_ok-number.ensures.value some (omega (arith, ints, c.in-None.ensures, e, g)) c.requires.digits)
