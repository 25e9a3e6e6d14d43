use Rattle.json5_grammar.proofs.ArraysPartlyRead.{one_opening, one_element, one_close, element_or_close, one_tail}
use Rattle.json5_grammar.proofs.laws.collections.one_way_on.Goals as goal

pub returns-clause-opening : goal.returns-clause-opening
returns-clause-opening c = one_opening

pub returns-clause-element : goal.returns-clause-element
returns-clause-element c = one_element

pub returns-clause-close : goal.returns-clause-close
returns-clause-close c = one_close

pub returns-clause-either : goal.returns-clause-either
returns-clause-either c = element_or_close

pub returns-clause-tail : goal.returns-clause-tail
returns-clause-tail c = one_tail
