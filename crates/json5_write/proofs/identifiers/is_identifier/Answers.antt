use Rattle.json5_write.proofs.NamesFound.{name_started, name_not_started, no_name}
use Rattle.json5_write.proofs.identifiers.is_identifier.Goals as goal

pub returns-in-None : goal.returns-in-None
returns-in-None c = no_name _ c.in-None.ensures

pub returns-then-is_json5_identifier_start : goal.returns-then-is_json5_identifier_start
returns-then-is_json5_identifier_start c = name_started _ _ _ _ _ c.utf8.text c.in-Some.ensures c.is_json5_identifier_start.ensures c.if-is_json5_identifier_start.true c.are_parts.ensures

pub returns-else-is_json5_identifier_start : goal.returns-else-is_json5_identifier_start
returns-else-is_json5_identifier_start c = name_not_started _ _ _ _ c.utf8.text c.in-Some.ensures c.is_json5_identifier_start.ensures c.if-is_json5_identifier_start.false
