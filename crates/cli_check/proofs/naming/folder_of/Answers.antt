use Rattle.cli_check.proofs.NamesLed.{folder_parted}
use Rattle.cli_check.proofs.naming.folder_of.Goals as goal

pub returns-in-Some : goal.returns-in-Some
returns-in-Some c =
    let (i, j, (none, at), front, back, low, long, left) = c.in-Some.ensures.cases in
    folder_parted c.args.name.now c.in-Some.folder.now c.in-Some.field-0-1.now i j at none front back
