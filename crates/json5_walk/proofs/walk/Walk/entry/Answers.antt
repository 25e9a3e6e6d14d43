use Rattle.std.proofs.lemmas.Result.{err_from_is_err_and}
use Rattle.json5_walk.proofs.Entries.{begins, entries_end, key_needs, none_closed, some_closed}
use Rattle.json5_walk.proofs.walk.Walk.entry.Goals as goal

pub returns-then-is_some-clause-begun : goal.returns-then-is_some-clause-begun
returns-then-is_some-clause-begun c = entries_end c.in_ok-part.ensures.parted (some_closed c.close.result c.is_some.result c.is_some.ensures c.close.ensures.taken c.if-is_some.true)

pub returns-in_err-entry_key-clause-refused : goal.returns-in_err-entry_key-clause-refused
returns-in_err-entry_key-clause-refused c =
    let (y, is, from) = err_from_is_err_and c.from_residual-in_err-entry_key.result c.from_residual-in_err-entry_key.ensures.1 in
    rw (is, from) (key_needs c.in_ok-part.ensures.parted c.in_ok-part.ensures.solid c.in_ok-part.ensures.done (none_closed c.close.result c.is_some.result c.is_some.ensures c.close.ensures.refused c.if-is_some.false) (none_closed c.close.result c.is_some.result c.is_some.ensures c.close.ensures.kept c.if-is_some.false) c.in_err-entry_key.ensures.refused)

pub returns-clause-begun : goal.returns-clause-begun
returns-clause-begun c = begins _ c.in_ok-part.ensures.parted c.in_ok-part.ensures.solid c.in_ok-part.ensures.done (none_closed c.close.result c.is_some.result c.is_some.ensures c.close.ensures.refused c.if-is_some.false) (none_closed c.close.result c.is_some.result c.is_some.ensures c.close.ensures.kept c.if-is_some.false) c.in_ok-entry_key.ensures.taken
