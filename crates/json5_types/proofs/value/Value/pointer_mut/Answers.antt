use Rattle.std.proofs.Common.{◌≡◌, None, option_and_then, sym, ap, ◌∙◌, arith, rules}
use Rattle.std.proofs.lemmas.Str.Pattern.{strip_prefix_char, split_parts}
use Rattle.json5_types.specs.ValueMeanings.{value_of}
use Rattle.json5_types.specs.Pointers.{steps_from, parts_of}
use Rattle.json5_types.proofs.PointerParts.{steps_part, steps_last, no_slash}
use Rattle.json5_types.proofs.value.Value.pointer_mut.Goals as goal

pub returns-in_err-rest : goal.returns-in_err-rest
returns-in_err-rest c =
    let path = c.args.path.now in
    let gone : c.from_residual.result ≡ None = grind arith in
    let other = rw c.in_err-rest.was at (strip_prefix_char 47 path c.strip_prefix.result c.strip_prefix.ensures.cases (omega arith)) in
    rw gone (sym (no_slash path (value_of c.args.self.now) (grind arith) other))

pub returns-in_err-target : goal.returns-in_err-target
returns-in_err-target c =
    let l = c.parts in
    let cut = rw c.in-Some.is at (split_parts 47 l.rest.now c.split_once.result c.split_once.ensures.cases (omega arith)) in
    let gone : c.from_residual-in_err-target.result ≡ None = grind arith in
    let turn = l.invariant.0 ∙ ap (λ s. steps_from (parts_of s) (value_of l.target.now)) cut.0 ∙ steps_part _ _ (value_of l.target.now) cut.1 in
    rw gone (sym (turn ∙ ap (option_and_then (steps_from (parts_of c.in-Some.more.now))) (sym c.in_err-target.ensures)))

pub parts-preserved : goal.parts-preserved
parts-preserved c =
    let l = c.parts in
    let cut = rw c.in-Some.is at (split_parts 47 l.rest.now c.split_once.result c.split_once.ensures.cases (omega arith)) in
    let turn = l.invariant.0 ∙ ap (λ s. steps_from (parts_of s) (value_of l.target.now)) cut.0 ∙ steps_part _ _ (value_of l.target.now) cut.1 in
    (turn ∙ ap (option_and_then (steps_from (parts_of c.in-Some.more.now))) (sym c.in_ok-target.ensures), search rules)

pub returns : goal.returns
returns c =
    let l = c.parts in
    let none = rw c.in_default.is at (split_parts 47 l.rest.now c.split_once.result c.split_once.ensures.cases (omega arith)) in
    c.step_mut-2.ensures ∙ sym (l.invariant.0 ∙ steps_last l.rest.now (value_of l.target.now) none)
