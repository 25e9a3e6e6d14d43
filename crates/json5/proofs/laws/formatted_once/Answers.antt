use Rattle.json5_format.proofs.Formats.{formatted_again}
use Rattle.json5.proofs.laws.formatted_once.Goals as goal

pub returns : goal.returns
returns c = formatted_again
