use Rattle.std.proofs.Common.{ap, sym, ◌∙◌}
use Rattle.std.specs.Prelude.{slice_get}
use Rattle.std.specs.Str.{chars}
use Rattle.json5_tokens.specs.Cursor.{Cursor}
use Rattle.json5_read.specs.declared.brackets.BracketPair.{BracketPair}
use Rattle.json5_edit.proofs.Refused.{begins_no, nothing_begins}
use Rattle.json5_edit.proofs.changing.begins.Goals as goal

pub returns-in_default : goal.returns-in_default
returns-in_default c = λ e. nothing_begins c.args.kind (chars c.args.old.now) (ap (λ (s : Cursor). slice_get s.unread 0) (sym c.new-scanner.ensures) ∙ sym c.peek.ensures ∙ c.in_default.is)

pub returns : goal.returns
returns c = λ e. begins_no c.args.kind (chars c.args.old.now) c.in-Some.first c.brackets.result.opening (ap (λ (s : Cursor). slice_get s.unread 0) (sym c.new-scanner.ensures) ∙ sym c.peek.ensures ∙ c.in-Some.is) (ap (λ (b : BracketPair). b.opening) c.brackets.ensures) e
