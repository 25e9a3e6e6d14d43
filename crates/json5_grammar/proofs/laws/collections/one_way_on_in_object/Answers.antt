use Rattle.json5_grammar.proofs.ObjectsRead.{one_opening_brace, one_key, one_key_value, one_brace, key_or_brace, one_pairs_tail}
use Rattle.json5_grammar.proofs.laws.collections.one_way_on_in_object.Goals as goal

pub returns-clause-opening : goal.returns-clause-opening
returns-clause-opening c = one_opening_brace

pub returns-clause-key : goal.returns-clause-key
returns-clause-key c = one_key

pub returns-clause-value : goal.returns-clause-value
returns-clause-value c = one_key_value

pub returns-clause-close : goal.returns-clause-close
returns-clause-close c = one_brace

pub returns-clause-either : goal.returns-clause-either
returns-clause-either c = key_or_brace

pub returns-clause-tail : goal.returns-clause-tail
returns-clause-tail c = one_pairs_tail
