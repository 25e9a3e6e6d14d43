use Rattle.std.proofs.Common.{string_bytes}
use Rattle.json5_convert.proofs.Kept.{respelled}
use Rattle.json5_convert.proofs.respelled.respell.Goals as goal

pub returns-in-Ok-clause-respelled : goal.returns-in-Ok-clause-respelled
returns-in-Ok-clause-respelled c = respelled c.args.spelling c.args.text.now (string_bytes c.in-Ok.made) c.in-Ok.ensures
