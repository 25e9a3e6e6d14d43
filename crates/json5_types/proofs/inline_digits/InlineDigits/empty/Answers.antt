use Rattle.std.proofs.Common.{arith}
use Rattle.json5_grammar.specs.Language.Characters.{no_char}
use Rattle.json5_types.proofs.inline_digits.InlineDigits.empty.Goals as goal

pub invariant_of-result : goal.invariant_of-result
invariant_of-result c = (omega arith, no_char)
