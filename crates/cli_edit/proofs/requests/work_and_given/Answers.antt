use Rattle.cli_files.specs.NameLists.{names_of}
use Rattle.cli_edit.proofs.KeysTaken.{asks_comment, asks_copy, asks_move, asks_rename}
use Rattle.cli_edit.proofs.WordsTaken.{asks}
use Rattle.cli_edit.proofs.requests.work_and_given.Goals as goal

pub returns-in_default : goal.returns-in_default
returns-in_default c =
    let d = c.in_default in
    asks c.args.word.now (names_of c.args.rest.now) d.not-get d.not-has d.not-keys d.not-length d.not-type d.not-remove d.not-sort d.not-apply d.not-merge d.not-rename d.not-move d.not-copy d.not-comment c.valued.result c.valued.ensures

pub returns-in-rename : goal.returns-in-rename
returns-in-rename c = asks_rename c.args.word.now (names_of c.args.rest.now) c.keyed.result c.in-rename.is c.keyed.ensures

pub returns-in-move : goal.returns-in-move
returns-in-move c = asks_move c.args.word.now (names_of c.args.rest.now) c.keyed-in-move.result c.in-move.is c.keyed-in-move.ensures

pub returns-in-copy : goal.returns-in-copy
returns-in-copy c = asks_copy c.args.word.now (names_of c.args.rest.now) c.keyed-in-copy.result c.in-copy.is c.keyed-in-copy.ensures

pub returns-in-comment : goal.returns-in-comment
returns-in-comment c = asks_comment c.args.word.now (names_of c.args.rest.now) c.keyed-in-comment.result c.in-comment.is c.keyed-in-comment.ensures
