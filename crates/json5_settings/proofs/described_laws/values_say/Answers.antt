use Rattle.json5_settings.proofs.ValuesSaid.{null_says, boolean_says, text_says, number_says, any_says}
use Rattle.json5_settings.proofs.WholesSaid.{natural_says, integer_says}
use Rattle.json5_settings.proofs.WithinSaid.{ordered_say}
use Rattle.json5_settings.proofs.described_laws.values_say.Goals as goal

pub returns-clause-null : goal.returns-clause-null
returns-clause-null c = null_says

pub returns-clause-boolean : goal.returns-clause-boolean
returns-clause-boolean c = boolean_says

pub returns-clause-text : goal.returns-clause-text
returns-clause-text c = text_says

pub returns-clause-number : goal.returns-clause-number
returns-clause-number c = number_says

pub returns-clause-any : goal.returns-clause-any
returns-clause-any c = any_says

pub returns-clause-natural : goal.returns-clause-natural
returns-clause-natural c = natural_says

pub returns-clause-integer : goal.returns-clause-integer
returns-clause-integer c = integer_says

pub returns-clause-within : goal.returns-clause-within
returns-clause-within c = ordered_say
