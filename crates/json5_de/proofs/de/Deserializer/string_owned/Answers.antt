use Rattle.std.proofs.Common.{rules}
use Rattle.json5_de.proofs.StringCharacters.{took_owned}
use Rattle.json5_de.proofs.de.Deserializer.string_owned.Goals as goal

pub returns-in-Ok : goal.returns-in-Ok
returns-in-Ok g c = took_owned c.in-Ok.text c.args.self.now _ c.offset-offset.ensures.scalars (search rules)
