use Rattle.std.proofs.lemmas.Result.{err_from_is_err_and}
use Rattle.cli_files.specs.NameLists.{names_of}
use Rattle.cli_check.specs.CommandWords.{choices_of}
use Rattle.cli_check.proofs.WordsTaken.{joined_taken, joined_refused}
use Rattle.cli_check.proofs.options.Options.take_setting.Goals as goal

pub returns-in_err-set-in-Some : goal.returns-in_err-set-in-Some
returns-in_err-set-in-Some c =
    let (y, is, from) = err_from_is_err_and c.from_residual.result c.from_residual.ensures.1 in
    λ kind.
    rw (is, from) (λ unknown.
    joined_refused (choices_of c.args.self.now) c.args.word.now c.in-Some.value.now (names_of c.args.rest.now) c.in-Some.setting kind c.in-Some.ensures (c.in_err-set-in-Some.ensures.refused unknown))

pub returns-in_ok-set-in-Some : goal.returns-in_ok-set-in-Some
returns-in_ok-set-in-Some c =
    λ kind.
    joined_taken (choices_of c.args.self.now) c.args.word.now c.in-Some.value.now (names_of c.args.rest.now) c.in-Some.setting kind c.in-Some.ensures (choices_of c.set.new.self) c.in_ok-set-in-Some.ensures.set
