use Rattle.std.proofs.Common.{rules}
use Rattle.json5_types.proofs.cow_str.CowStr.as_str.Goals as goal

pub returns-in-Borrowed : goal.returns-in-Borrowed
returns-in-Borrowed c = search rules
