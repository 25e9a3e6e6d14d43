use Rattle.std.proofs.Common.{ap}
use Rattle.std.proofs.lemmas.List.{nil_from_length}
use Rattle.std.proofs.lemmas.Result.{err_from_is_err_and}
use Rattle.cli_files.specs.NameLists.{names_of}
use Rattle.cli_check.specs.CommandWords.{choices_of, nothing_chosen}
use Rattle.cli_check.proofs.WordsTaken.{begins, front_word, goes_on, goes_no_further, at_end, fewer}
use Rattle.cli_check.proofs.options.Options.of.Goals as goal

pub loop-word-init : goal.loop-word-init
loop-word-init c = begins (choices_of c.none-options.result) (names_of c.args.list.now) c.none-options.ensures

pub loop-word-preserved : goal.loop-word-preserved
loop-word-preserved c =
    goes_on nothing_chosen (choices_of c.loop-word.options) (choices_of c.take.new.self) (names_of c.args.list.now) _ (names_of c.loop-word.left.now) (names_of c.in_ok-left.left.now)
    (front_word c.loop-word.left.now c.in-Some.rest.now c.in-Some.word.now c.as_str.result.now c.in-Some.ensures.cases.0 c.as_str.ensures.value) c.loop-word.invariant c.in_ok-left.ensures.0

pub loop-word-smaller : goal.loop-word-smaller
loop-word-smaller c = fewer c.loop-word.left.now c.in-Some.rest.now c.in-Some.word.now c.in_ok-left.left.now c.in-Some.ensures.cases.0 c.in_ok-left.ensures.1

pub returns-in_err-left : goal.returns-in_err-left
returns-in_err-left c =
    let (y, is, from) = err_from_is_err_and c.from_residual.result c.from_residual.ensures.1 in
    rw (is, from) (λ unknown.
    goes_no_further nothing_chosen (choices_of c.loop-word.options) (names_of c.args.list.now) _ (names_of c.loop-word.left.now)
    (front_word c.loop-word.left.now c.in-Some.rest.now c.in-Some.word.now c.as_str.result.now c.in-Some.ensures.cases.0 c.as_str.ensures.value) c.loop-word.invariant (c.in_err-left.ensures unknown))

pub returns : goal.returns
returns c =
    at_end nothing_chosen (choices_of c.loop-word.options) (names_of c.args.list.now) (names_of c.loop-word.left.now) (ap names_of (nil_from_length c.loop-word.left.now c.in_default.ensures.cases)) c.loop-word.invariant
