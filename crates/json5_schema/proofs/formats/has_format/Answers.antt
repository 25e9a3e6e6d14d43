use Rattle.std.specs.Str.{chars}
use Rattle.json5_schema.proofs.FormatsKnown.{known_format, unknown_format}
use Rattle.json5_schema.proofs.formats.has_format.Goals as goal

pub returns-in-Some : goal.returns-in-Some
returns-in-Some c = known_format c.matches.result c.args.name.now c.args.text.now c.in-Some.expression.now c.utf8.name c.utf8.text (rw c.in-Some.is at c.expression_named.ensures) c.matches.ensures

pub returns-in-None : goal.returns-in-None
returns-in-None c = unknown_format c.args.name.now (chars c.args.text.now) c.utf8.name (rw c.in-None.is at c.expression_named.ensures)
