use Rattle.std.proofs.Common.{refl, sym}
use Rattle.json5_types.specs.Errors.{kind_of}
use Rattle.cli_check.proofs.Judged.{not_memory, text_refused}
use Rattle.cli_check.proofs.files.refuse.Goals as goal

pub returns-in-Text : goal.returns-in-Text
returns-in-Text g c = text_refused c.args.error c.told.result (not_memory (kind_of c.args.error) c.args.error c.in-Text.error refl (sym c.in-Text.ensures)) c.told.ensures
