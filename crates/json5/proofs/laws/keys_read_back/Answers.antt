use Rattle.json5.proofs.ReadsBack.{null_key_back, boolean_key_back, natural_key_back, integer_key_back, decimal_key_back, string_key_back, character_key_back}
use Rattle.json5.proofs.laws.keys_read_back.Goals as goal

pub returns-clause-null : goal.returns-clause-null
returns-clause-null c = null_key_back

pub returns-clause-boolean : goal.returns-clause-boolean
returns-clause-boolean c = boolean_key_back

pub returns-clause-natural : goal.returns-clause-natural
returns-clause-natural c = natural_key_back

pub returns-clause-integer : goal.returns-clause-integer
returns-clause-integer c = integer_key_back

pub returns-clause-decimal : goal.returns-clause-decimal
returns-clause-decimal c = decimal_key_back

pub returns-clause-string : goal.returns-clause-string
returns-clause-string c = string_key_back

pub returns-clause-character : goal.returns-clause-character
returns-clause-character c = character_key_back
