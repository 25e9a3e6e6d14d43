use Rattle.std.proofs.Common.{refl, sym}
use Rattle.json5_types.specs.Errors.{kind_of}
use Rattle.cli_check.proofs.Judged.{not_memory}
use Rattle.cli_check.proofs.SchemasTaken.{refused}
use Rattle.cli_check.proofs.schemas.refuse.Goals as goal

pub returns-in-Text : goal.returns-in-Text
returns-in-Text c = refused c.args.error c.because.result (not_memory (kind_of c.args.error) c.args.error c.in-Text.error refl (sym c.in-Text.ensures)) c.because.ensures
