use Rattle.std.proofs.Common.{◌≡◌, false, length}
use Rattle.std.specs.Str.{chars}
use Rattle.json5_types.specs.declared.error.Error.{Error}
use Rattle.json5_convert.specs.Lines.{RefusesDocuments, at_start}
use Rattle.json5_convert.proofs.DocumentsRead.{LeadsTo}
use Rattle.json5_convert.proofs.lines.from_lines.Given as goal

-- those that were read stand in front of what is left
abbrev pub invariant-loop-values : goal.invariant-loop-values
invariant-loop-values l = (l.documents.has_failed ≡ false) × (l.documents.cursor.input ≡ chars l.fn.text) × LeadsTo (chars l.fn.text) l.values.items l.documents.cursor.unread
    × ((e : Error) → RefusesDocuments l.documents.cursor e → RefusesDocuments (at_start l.fn.text) e)

-- each takes a character at least
abbrev pub decreases-loop-values : goal.decreases-loop-values
decreases-loop-values l = length l.documents.cursor.unread
