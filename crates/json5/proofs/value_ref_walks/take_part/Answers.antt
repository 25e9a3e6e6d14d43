use Rattle.std.proofs.Common.{◌∙◌}
use Rattle.json5_walk.specs.Moves.{Stays, Closes}
use Rattle.json5_walk.specs.Walks.{Moved}
use Rattle.json5_walk.proofs.Entries.{after_gap}
use Rattle.json5.proofs.RefsRead.{from_kept, gap_kept, none_kept}
use Rattle.json5.proofs.value_ref_walks.take_part.Goals as goal

pub returns-then-comma : goal.returns-then-comma
returns-then-comma c =
    let none = none_kept (λ bracket. Moved Closes c.short_comma.new.self c.short_close.new.self) c.short_close.result c.is_some.result c.is_some.ensures c.short_close.ensures c.if-is_some.false in
    after_gap (from_kept Stays (none ∙ c.if-short_comma.ensures) c.in_ok-front.ensures) (c.comma.ensures.taken c.if-comma.true)

pub returns : goal.returns
returns c =
    let none = none_kept (λ bracket. Moved Closes c.short_comma.new.self c.short_close.new.self) c.short_close.result c.is_some.result c.is_some.ensures c.short_close.ensures c.if-is_some.false in
    after_gap (gap_kept (from_kept Stays (none ∙ c.if-short_comma.ensures) c.in_ok-front.ensures) (c.comma.ensures.kept c.if-comma.false)) c.in_ok-close.ensures.taken
