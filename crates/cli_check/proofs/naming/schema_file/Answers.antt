use Rattle.cli_check.specs.Naming.{mapped, beside}
use Rattle.cli_check.proofs.NamesLed.{elsewhere}
use Rattle.cli_check.proofs.naming.schema_file.Goals as goal

pub returns-in-Some : goal.returns-in-Some
returns-in-Some c = rw c.in_ok-copied.ensures (mapped c.in-Some.ensures)

pub returns-then-contains : goal.returns-then-contains
returns-then-contains c = elsewhere c.args.maps.now c.args.schema.now c.in_default.ensures c.if-contains.ensures.cases

pub returns : goal.returns
returns c = beside c.in_default.ensures c.in_ok-beside.ensures
