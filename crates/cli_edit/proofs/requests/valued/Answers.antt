use Rattle.cli_files.specs.NameLists.{names_of}
use Rattle.cli_edit.proofs.WordsTaken.{no_tail}
use Rattle.cli_edit.proofs.requests.valued.Goals as goal

pub returns-in_default-tail_of : goal.returns-in_default-tail_of
returns-in_default-tail_of c w g named =
    no_tail c.in-Some.source (names_of c.in-Some.more.now) (names_of c.args.rest.now) c.in-Some.ensures c.in_default-tail_of.ensures w g
