use Rattle.std.proofs.Common.{sym, ◌∙◌}
use Rattle.json5_edit.proofs.path_texts.pointers.read_part.Goals as goal

pub returns-in_ok-from_str-in-Some : goal.returns-in_ok-from_str-in-Some
returns-in_ok-from_str-in-Some c = λ lacks. (sym c.index_of.ensures ∙ c.in-Some.is, c.in_ok-from_str-in-Some.ensures.ok)

pub returns-in_ok-unescaped-in-None : goal.returns-in_ok-unescaped-in-None
returns-in_ok-unescaped-in-None c = λ lacks. (sym c.index_of.ensures ∙ c.in-None.is, c.in_ok-unescaped-in-None.ensures lacks)
