use Rattle.std.proofs.Common.{sym, subst}
use Rattle.std.specs.Prelude.{◌↔◌}
use Rattle.std.specs.Str.{chars}
use Rattle.json5_lexemes.specs.PlainSteps.{TakesBlock}
use Rattle.json5_lexemes.proofs.PlainTakes.{no_block, block_run, block_there, block_goes_on, skipped_less}
use Rattle.json5_lexemes.proofs.plain.skip_block.Goals as goal

pub loop-c-init : goal.loop-c-init
loop-c-init c = (c.skip_to_star-rest.utf8, λ r. block_run _ _ r c.skip_to_star-rest.ensures)

pub returns-in-Some-block_end : goal.returns-in-Some-block_end
returns-in-Some-block_end c = λ r.
    let here = block_there _ _ _ r c.in-Some.c c.in-Some.ensures.chars c.in-Some-block_end.ensures.0 c.in-Some-block_end.ensures.1 in
    let from = c.loop-c.invariant.1 r in
    (λ t. here.0 (from.0 t), λ e. from.1 (here.1 e))

pub loop-c-smaller : goal.loop-c-smaller
loop-c-smaller c = skipped_less _ _ _ c.in-Some.c c.in-Some.ensures.chars c.skip_to_star-rest-in-Some.ensures

pub loop-c-preserved : goal.loop-c-preserved
loop-c-preserved c = (
  c.skip_to_star-rest-in-Some.utf8,
  λ r.
      let a = c.loop-c.invariant.1 r in
      let b = subst (λ z. TakesBlock z r ↔ TakesBlock (chars c.in-Some.after.now) r) (sym c.in-Some.ensures.chars) (block_goes_on c.in-Some.c (chars c.in-Some.after.now) r c.in_default-block_end.ensures) in
      let d = block_run _ _ r c.skip_to_star-rest-in-Some.ensures in
      (λ t. d.0 (b.0 (a.0 t)), λ t. a.1 (b.1 (d.1 t))),
)

pub returns : goal.returns
returns c = λ r t. no_block r (subst (λ z. TakesBlock z r) c.in_default.ensures ((c.loop-c.invariant.1 r).0 t))
