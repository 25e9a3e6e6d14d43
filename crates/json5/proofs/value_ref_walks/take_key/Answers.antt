use Rattle.json5_walk.specs.Moves.{Stays}
use Rattle.json5_walk.proofs.Entries.{after_gap}
use Rattle.json5.proofs.RefsRead.{from_kept, gap_kept, none_so, some_so}
use Rattle.json5.proofs.value_ref_walks.take_key.Goals as goal

pub returns-then-is_some : goal.returns-then-is_some
returns-then-is_some c = after_gap (from_kept Stays c.in_default.ensures c.in_ok-front.ensures) (some_so c.close.result c.is_some.result c.is_some.ensures c.close.ensures.taken c.if-is_some.true)

pub returns : goal.returns
returns c =
    let none = none_so c.close.result c.is_some.result c.is_some.ensures c.close.ensures.kept c.if-is_some.false in
    after_gap (gap_kept (from_kept Stays c.in_default.ensures c.in_ok-front.ensures) none) c.in_ok-long_key.ensures
