use Rattle.std.proofs.Common.{rules}
use Rattle.json5_write.proofs.printer.Printer.into_inner.Goals as goal

pub returns : goal.returns
returns g c = search rules
