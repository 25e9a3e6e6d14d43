use Rattle.std.proofs.Common.{sym, ◌∙◌, arith}
use Rattle.json5_styles.proofs.JsonEscapesSplit.{seam, shorter, splits, stands_next, stands_all}
use Rattle.json5_styles.proofs.strings.split_at_escaped.Goals as goal

pub split_at-requires : goal.split_at-requires
split_at-requires c = seam _ _ c.loop-c.invariant

pub loop-c-smaller : goal.loop-c-smaller
loop-c-smaller c = let less = shorter _ _ _ c.in-Some.ensures in omega arith

pub loop-c-init : goal.loop-c-init
loop-c-init c = c.skip_unescaped-rest.ensures.stands

pub returns : goal.returns
returns c = stands_all _ _ c.loop-c.invariant c.in_default.ensures

pub returns-then-not-is_unescaped : goal.returns-then-not-is_unescaped
returns-then-not-is_unescaped c = splits _ _ _ _ _ c.loop-c.invariant c.in-Some.ensures c.split_at.ensures.front (sym c.is_unescaped.ensures ∙ c.if-not-is_unescaped.true)

pub loop-c-preserved : goal.loop-c-preserved
loop-c-preserved c = stands_next _ _ _ _ c.loop-c.invariant c.in-Some.ensures (sym c.is_unescaped.ensures ∙ c.if-not-is_unescaped.false)
