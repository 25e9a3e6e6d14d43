use Rattle.std.proofs.Common.{sym, true≢false, refl}
use Rattle.cli_files.proofs.NamesEnded.{any_here, none_more, none_at_all}
use Rattle.cli_files.proofs.endings.has_any_ending.Goals as goal

pub returns-then-has_ending : goal.returns-then-has_ending
returns-then-has_ending c =
    (λ _. any_here c.args.name.now c.args.endings.now c.loop-ending.ending-index c.ending-item.result c.as_str.result.now c.loop-ending-test.true c.ending-item.is c.as_str.ensures.value (c.if-has_ending.ensures.0 refl), λ _. refl)

pub loop-ending-preserved : goal.loop-ending-preserved
loop-ending-preserved c =
    none_more c.args.name.now c.args.endings.now c.loop-ending.ending-index c.ending-item.result c.as_str.result.now c.loop-ending-test.true c.ending-item.is c.as_str.ensures.value
    (λ h. true≢false (sym (c.if-has_ending.ensures.1 h))) c.loop-ending.invariant

pub returns : goal.returns
returns c = (λ t. absurd (true≢false (sym t)), λ h. absurd (none_at_all c.args.name.now c.args.endings.now c.loop-ending.ending-index c.loop-ending-test.false c.loop-ending.invariant h))
