use Rattle.std.proofs.Common.{rules}
use Rattle.std.specs.Str.{chars}
use Rattle.json5_tidy.specs.Styles.{may_move}
use Rattle.json5_tidy.proofs.Kept.{kept}
use Rattle.json5_tidy.proofs.documents.tidy_with.Goals as goal

pub returns-in-Ok-laid_out_document : goal.returns-in-Ok-laid_out_document
returns-in-Ok-laid_out_document c = record { kept = rw c.in-Ok-laid_out_document.is at (kept (may_move c.args.style.stars) (chars c.args.text.now) c.laid_out_document.result c.in-Ok.ensures.sound c.laid_out_document.ensures.laid_out); plain = c.in-Ok-laid_out_document.ensures.plain; complete = search rules; refused = search rules }
