use lib.Chars.{codes}
use Rattle.std.proofs.lemmas.Str.Pattern.{contains_text}
use Rattle.json5_settings.proofs.members.has_slashes.Goals as goal

pub returns : goal.returns
returns c = contains_text c.contains.result (codes "//") c.args.text.now c.contains.ensures.cases
