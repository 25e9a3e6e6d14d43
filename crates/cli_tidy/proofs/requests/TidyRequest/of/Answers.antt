use Rattle.std.proofs.Common.{ap}
use Rattle.std.proofs.lemmas.Result.{err_from_is_err_and}
use Rattle.cli_files.specs.NameLists.{names_of}
use Rattle.cli_tidy.specs.WordSteps.{choices_of}
use Rattle.cli_tidy.proofs.WordsRead.{asks, asks_nothing}
use Rattle.cli_tidy.proofs.requests.TidyRequest.of.Goals as goal

pub returns-in_err-names : goal.returns-in_err-names
returns-in_err-names c =
    let (y, is, from) = err_from_is_err_and c.from_residual.result c.from_residual.ensures.1 in
    rw (is, from) (asks_nothing c.args.list.now (choices_of c.none-words.result) c.in_err-names.field-0.0 c.none-words.ensures c.in_err-names.ensures.refused)

pub returns : goal.returns
returns c =
    asks c.args.list.now c.none-words.result c.take_all.new.self (names_of c.in_ok-names.names.now) _ c.none-words.ensures c.in_ok-names.ensures.taken
    (ap (λ o. record (choices_of c.take_all.new.self) { others = o }) c.in_ok-push_names.ensures) c.request_of.result c.request_of.ensures
