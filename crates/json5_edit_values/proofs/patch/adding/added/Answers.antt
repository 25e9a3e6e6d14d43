use Rattle.std.proofs.Common.{◌++◌, ◌∷◌, [], ◌∙◌, ap, subst, sym, string_bytes}
use Rattle.json5_edit.proofs.Placed.{ok_then}
use Rattle.json5_edit.proofs.Refused.{no_steps}
use Rattle.json5_edit_values.specs.Locations.{AreSteps}
use Rattle.json5_edit_values.proofs.PatchesMade.{adds_at, adds_keyed, adds_whole}
use Rattle.json5_edit_values.proofs.patch.adding.added.Goals as goal

pub returns-in_default : goal.returns-in_default
returns-in_default c =
    let are = subst (AreSteps c.args.tokens.now) (sym c.as_slice.ensures.value) c.in_ok-steps.ensures.steps in
    let none = no_steps c.as_slice.result.now (rw c.in_default.is at c.split_last.ensures.cases) in
    ok_then c.set_at.result (λ made k. adds_whole c.args.new c.args.tokens.now c.args.text.now (string_bytes made) c.as_slice.result.now are none k) c.set_at.ensures

pub returns-in-Index : goal.returns-in-Index
returns-in-Index c =
    let are = subst (AreSteps c.args.tokens.now) (sym c.as_slice.ensures.value) c.in_ok-steps.ensures.steps in
    let last = c.in-Some.ensures.cases.0 ∙ ap (λ s. c.in-Some.outer.now ++ (s ∷ [])) c.in-Index.is in
    ok_then c.add_element.result (λ made k. adds_at c.args.new c.args.tokens.now c.args.text.now (string_bytes made) c.as_slice.result.now are c.in-Some.outer.now c.in-Index.index last k) c.add_element.ensures

pub returns : goal.returns
returns c =
    let are = subst (AreSteps c.args.tokens.now) (sym c.as_slice.ensures.value) c.in_ok-steps.ensures.steps in
    let last = c.in-Some.ensures.cases.0 ∙ ap (λ s. c.in-Some.outer.now ++ (s ∷ [])) c.in-Key.is in
    let same = c.as_slice-in-Key.ensures.value ∙ sym c.as_slice.ensures.value in
    ok_then c.add_keyed.result (λ made k. adds_keyed c.args.new c.args.tokens.now c.args.text.now (string_bytes made) c.as_slice-in-Key.result.now c.in-Some.outer.now c.in-Key.key (subst (AreSteps c.args.tokens.now) (sym same) are) (same ∙ last) k) c.add_keyed.ensures
