use Rattle.std.proofs.Common.{◌≡◌, None, option_and_then, sym, ap, ◌∙◌, arith}
use Rattle.std.proofs.lemmas.Str.Pattern.{split_parts}
use Rattle.json5_types.specs.Pointers.{steps_from, parts_of}
use Rattle.json5_types.proofs.PointerParts.{steps_part, steps_last}
use Rattle.json5.specs.ValueRefs.{ref_of}
use Rattle.json5.proofs.value_ref_pointer.+steps.Goals as goal

pub returns-in_err-step-in-Some : goal.returns-in_err-step-in-Some
returns-in_err-step-in-Some t c =
    let cut = rw c.in-Some.is at (split_parts 47 c.args.path.now c.split_once.result c.split_once.ensures.cases (omega arith)) in
    let x = ref_of c.args.target.now in
    let gone : c.from_residual.result ≡ None = grind arith in
    let turn = ap (λ s. steps_from (parts_of s) x) cut.0 ∙ steps_part _ _ x cut.1 in
    rw gone (sym (turn ∙ ap (option_and_then (steps_from (parts_of c.in-Some.rest.now))) (sym c.in_err-step-in-Some.ensures)))

pub returns-in_ok-step-in-Some : goal.returns-in_ok-step-in-Some
returns-in_ok-step-in-Some t c =
    let cut = rw c.in-Some.is at (split_parts 47 c.args.path.now c.split_once.result c.split_once.ensures.cases (omega arith)) in
    let x = ref_of c.args.target.now in
    let turn = ap (λ s. steps_from (parts_of s) x) cut.0 ∙ steps_part _ _ x cut.1 in
    c.steps.ensures ∙ sym (turn ∙ ap (option_and_then (steps_from (parts_of c.in-Some.rest.now))) (sym c.in_ok-step-in-Some.ensures))

pub returns-in-None : goal.returns-in-None
returns-in-None t c =
    let none = rw c.in-None.is at (split_parts 47 c.args.path.now c.split_once.result c.split_once.ensures.cases (omega arith)) in
    c.step-in-None.ensures ∙ sym (steps_last c.args.path.now (ref_of c.args.target.now) none)
