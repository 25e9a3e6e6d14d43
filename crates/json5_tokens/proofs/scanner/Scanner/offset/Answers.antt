use Rattle.json5_tokens.proofs.TextCuts.{halves_in, parts_scalar, offset_counted}
use Rattle.json5_tokens.proofs.scanner.Scanner.offset.Goals as goal

pub returns-clause-counted : goal.returns-clause-counted
returns-clause-counted g c = rw (← c.self.view_is) (offset_counted c.self.invariant)

pub returns-clause-suffix : goal.returns-clause-suffix
returns-clause-suffix g c = rw (← c.self.view_is) (_, (halves_in c.self.invariant).split)

pub returns-clause-scalars : goal.returns-clause-scalars
returns-clause-scalars g c = rw (← c.self.view_is) (parts_scalar (halves_in c.self.invariant)).1
