use Rattle.std.proofs.Common.{refl, sym, ap, ◌∙◌, ◌∷◌, subst, true≢false}
use Rattle.std.proofs.lemmas.List.{nil_from_length}
use Rattle.std.proofs.lemmas.Result.{err_from_is_err_and}
use Rattle.cli_tidy.specs.CommandWords.{Starts}
use Rattle.cli_files.specs.NameLists.{names_of}
use Rattle.cli_tidy.specs.WordSteps.{choices_of}
use Rattle.cli_tidy.proofs.WordsRead.{step, ends_there, ends_last, chooses_nothing, front_word}
use Rattle.cli_tidy.proofs.taking.Words.take_all.Goals as goal

pub returns-then-is_end-clause-taken : goal.returns-then-is_end-clause-taken
returns-then-is_end-clause-taken c =
    ends_there (choices_of c.args.self.now) (choices_of c.loop-word.self) (names_of c.args.list.now) (names_of c.loop-word.left.now) (names_of c.in-Some.rest.now) c.loop-word.invariant
    (front_word c.loop-word.left.now c.in-Some.rest.now c.in-Some.word.now c.as_str.result.now c.in-Some.ensures.cases.0 c.as_str.ensures.value ∙ ap (λ w. w ∷ names_of c.in-Some.rest.now) (c.if-is_end.ensures.0 refl))

pub returns-in_err-left-clause-refused : goal.returns-in_err-left-clause-refused
returns-in_err-left-clause-refused c =
    let (y, is, from) = err_from_is_err_and c.from_residual.result c.from_residual.ensures.1 in
    rw (is, from) (λ unknown.
    chooses_nothing (choices_of c.args.self.now) (choices_of c.loop-word.self) (names_of c.args.list.now) (names_of c.loop-word.left.now) (names_of c.in-Some.rest.now) c.as_str-in-Some.result.now c.loop-word.invariant
    (front_word c.loop-word.left.now c.in-Some.rest.now c.in-Some.word.now c.as_str-in-Some.result.now c.in-Some.ensures.cases.0 c.as_str-in-Some.ensures.value)
    (λ e. true≢false (sym (c.if-is_end.ensures.1 (c.as_str.ensures.value ∙ sym c.as_str-in-Some.ensures.value ∙ e))))
    (c.in_err-left.ensures.refused unknown))

pub loop-word-preserved : goal.loop-word-preserved
loop-word-preserved c =
    let (p, start, e) = c.in_ok-left.ensures.taken in
    let front = front_word c.loop-word.left.now c.in-Some.rest.now c.in-Some.word.now c.as_str-in-Some.result.now c.in-Some.ensures.cases.0 c.as_str-in-Some.ensures.value in
    step (choices_of c.args.self.now) (choices_of c.loop-word.self) (choices_of c.take.new.self) (names_of c.args.list.now) (names_of c.loop-word.left.now) (names_of c.in_ok-left.left.now) p c.loop-word.invariant
    (subst (λ l. Starts l p (names_of c.in_ok-left.left.now)) (sym front) start) e

pub returns-clause-taken : goal.returns-clause-taken
returns-clause-taken c =
    ends_last (choices_of c.args.self.now) (choices_of c.loop-word.self) (names_of c.args.list.now) (names_of c.loop-word.left.now) c.loop-word.invariant (ap names_of (nil_from_length c.loop-word.left.now c.in_default.ensures.cases))
