use Rattle.std.proofs.Common.{sym, ap, ◌∙◌}
use Rattle.json5_tokens.specs.Cursor.{Cursor}
use Rattle.json5_grammar.specs.Language.Documents.{max_depth}
use Rattle.json5_edit.proofs.Placed.{value_alone}
use Rattle.json5_edit_values.proofs.laid_out.is_value.Goals as goal

pub returns-in-None : goal.returns-in-None
returns-in-None c = value_alone max_depth _ _ _ (ap (λ (s : Cursor). s.unread) c.new-scanner.ensures) c.in-Ok.ensures.given (sym c.peek.ensures ∙ c.in-None.is)
