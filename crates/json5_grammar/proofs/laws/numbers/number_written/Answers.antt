use Rattle.json5_grammar.specs.Language.Numbers.{Number, Num, whole, decimal}
use Rattle.json5_grammar.specs.Written.NumberText.{IsNumber, number_text}
use Rattle.json5_grammar.proofs.WholesWritten.{whole_text}
use Rattle.json5_grammar.proofs.DecimalsWritten.{printed_decimal}
use Rattle.json5_grammar.proofs.NormalForms.{num_normal}
use Rattle.json5_grammar.proofs.laws.numbers.number_written.Goals as goal

printed : (n : Number) → IsNumber n → Num (number_text n) n
printed (whole z) h = whole_text z h
printed (decimal d) h = printed_decimal d h

pub returns-clause-wholes : goal.returns-clause-wholes
returns-clause-wholes c = whole_text

pub returns-clause-decimals : goal.returns-clause-decimals
returns-clause-decimals c = printed_decimal

pub returns-clause-numbers : goal.returns-clause-numbers
returns-clause-numbers c = printed

pub returns-clause-whole_range : goal.returns-clause-whole_range
returns-clause-whole_range c = λ s z h. num_normal h

pub returns-clause-normal : goal.returns-clause-normal
returns-clause-normal c = λ s d h. num_normal h
