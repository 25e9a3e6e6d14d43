use Rattle.std.proofs.Common.{rules}
use Rattle.json5_tokens.proofs.char.is_json5_line_terminator.Goals as goal

pub returns-in_default : goal.returns-in_default
returns-in_default c = search rules
