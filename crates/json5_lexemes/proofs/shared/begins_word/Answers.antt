use Rattle.std.proofs.Common.{sym}
use Rattle.json5_lexemes.proofs.SharedSteps.{dollar, word_byte}
use Rattle.json5_lexemes.proofs.shared.begins_word.Goals as goal

pub returns-then-is_word_byte : goal.returns-then-is_word_byte
returns-then-is_word_byte c = λ t. word_byte c.args.byte (sym c.if-is_word_byte.ensures)

pub returns-else-is_word_byte : goal.returns-else-is_word_byte
returns-else-is_word_byte c = λ t. dollar c.args.byte t
