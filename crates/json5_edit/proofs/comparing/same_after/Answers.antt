use Rattle.std.proofs.Common.{refl}
use Rattle.json5_edit.proofs.Compared.{after_first, after_key}
use Rattle.json5_walk.proofs.Entries.{on_then}
use Rattle.json5_edit.proofs.comparing.same_after.Goals as goal

pub returns-in-First : goal.returns-in-First
returns-in-First c = rw c.in-First.is (on_then c.same_rest.result c.same_rest.ensures (λ rest. after_first rest))

pub returns-else-not-has_key : goal.returns-else-not-has_key
returns-else-not-has_key c =
    let p = rw c.in-Some.is at c.in_ok-entry-in-Key.ensures in
    rw c.in-Key.is (on_then c.same_rest-in-Key.result c.same_rest-in-Key.ensures (λ rest. after_key c.in-Key.next _ _ p.0 p.1 (c.if-not-has_key.ensures refl) rest))
