use Rattle.std.proofs.Common.{◌∙◌, ◌*◌, ◌<◌, ◌%◌, ℕ, ap, arith}
use Rattle.std.proofs.lemmas.Nat.{mod_below}
use Rattle.json5_schema.proofs.Remainders.{zero_more}
use Rattle.json5_schema.proofs.multiples.with_zeros.Goals as goal

pub loop-preserved : goal.loop-preserved
loop-preserved c =
    let l = c.loop in
    let d = c.args.divisor in
    let above : 0 < d = omega (arith, c.requires.below) in
    (ap (λ (r : ℕ). r * 10 % d) l.invariant.0 ∙ zero_more c.args.number l.counter d, mod_below (l.rest * 10) d above)
