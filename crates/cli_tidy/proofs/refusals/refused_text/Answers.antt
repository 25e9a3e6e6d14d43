use Rattle.std.proofs.Common.{Some, refl, sym, subst}
use Rattle.json5_types.specs.Errors.{kind_of}
use Rattle.cli_files.specs.Inputs.{ReadFailure}
use Rattle.cli_files.proofs.Refusals.{refused_read}
use Rattle.cli_tidy.specs.Refusals.{refused}
use Rattle.cli_tidy.proofs.refusals.refused_text.Goals as goal

pub returns-in-Ok : goal.returns-in-Ok
returns-in-Ok c =
    let text = c.args.text.now in
    let k = subst (ReadFailure (Some text)) (sym c.in-Text.ensures) (refused_read (Some text) (kind_of c.args.error) c.args.error refl c.requires) in
    refused c.in-Text.error k.0 k.1 c.in-Ok.ensures

pub returns-in-Err : goal.returns-in-Err
returns-in-Err c =
    let text = c.args.text.now in
    let k = subst (ReadFailure (Some text)) (sym c.in-Text.ensures) (refused_read (Some text) (kind_of c.args.error) c.args.error refl c.requires) in
    (k, c.in-Err.ensures)

pub returns-in_default : goal.returns-in_default
returns-in_default c = c.requires.0
