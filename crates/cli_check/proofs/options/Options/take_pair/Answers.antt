use Rattle.std.proofs.Common.{ap}
use Rattle.std.proofs.lemmas.List.{nil_from_length}
use Rattle.std.proofs.lemmas.Result.{err_from_is_err_and}
use Rattle.cli_files.specs.NameLists.{names_of}
use Rattle.cli_check.specs.CommandWords.{choices_of, unknown}
use Rattle.cli_check.proofs.WordsTaken.{front_word, setting_taken, value_missing, value_refused}
use Rattle.cli_check.proofs.options.Options.take_pair.Goals as goal

pub returns-in_default : goal.returns-in_default
returns-in_default c = λ apart kind _. unknown (choices_of c.args.self.now) c.args.word.now (names_of c.args.rest.now) kind c.in_default.ensures apart

pub returns-in_default-split_first : goal.returns-in_default-split_first
returns-in_default-split_first c =
    λ apart kind _.
    value_missing (choices_of c.args.self.now) c.args.word.now (names_of c.args.rest.now) c.in-Some.setting kind c.in-Some.ensures (ap names_of (nil_from_length c.args.rest.now c.in_default-split_first.ensures.cases))

pub returns-in_err-set : goal.returns-in_err-set
returns-in_err-set c =
    let (y, is, from) = err_from_is_err_and c.from_residual.result c.from_residual.ensures.1 in
    let split = c.in-Some-split_first in
    λ apart kind.
    rw (is, from) (λ unknown.
    value_refused (choices_of c.args.self.now) c.args.word.now c.as_str.result.now (names_of c.args.rest.now) (names_of split.left.now) c.in-Some.setting kind c.in-Some.ensures
    (front_word c.args.rest.now split.left.now split.value.now c.as_str.result.now split.ensures.cases.0 c.as_str.ensures.value) (c.in_err-set.ensures.refused unknown))

pub returns : goal.returns
returns c =
    let split = c.in-Some-split_first in
    λ apart kind.
    setting_taken (choices_of c.args.self.now) (choices_of c.set.new.self) c.args.word.now c.as_str.result.now (names_of c.args.rest.now) (names_of split.left.now) c.in-Some.setting kind c.in-Some.ensures
    (front_word c.args.rest.now split.left.now split.value.now c.as_str.result.now split.ensures.cases.0 c.as_str.ensures.value) c.in_ok-set.ensures.set
