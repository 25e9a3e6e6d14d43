use Rattle.std.proofs.Common.{subst, sym}
use Rattle.json5_edit.specs.Changes.{ChangesBy}
use Rattle.json5_edit_values.specs.Patches.{ComparesIn, RefusesTest, Tests}
use Rattle.json5_edit_values.proofs.PatchesMade.{edited_err, edited_ok, holds_test}
use Rattle.json5_edit_values.proofs.patch.applying.tested.Goals as goal

pub returns-in-Ok-true-clause-made : goal.returns-in-Ok-true-clause-made
returns-in-Ok-true-clause-made c =
    let compares = subst (λ b. ComparesIn b c.args.tokens.now c.args.value.now c.args.text.now) c.in-Ok-true.field-0-test c.in-Ok-true.ensures in
    let tests = holds_test c.args.tokens.now c.args.value.now c.args.text.now compares in
    edited_ok c.owned.result c.edited.result c.edited.ensures (λ made e. subst (ChangesBy (Tests c.args.tokens.now c.args.value.now) c.args.text.now) (sym e) tests) c.owned.ensures.made

pub returns-in-Ok-true-clause-refused : goal.returns-in-Ok-true-clause-refused
returns-in-Ok-true-clause-refused c = edited_err (RefusesTest c.args.tokens.now c.args.value.now c.args.text.now) c.owned.result c.edited.result c.edited.ensures (λ x. tt)

pub returns-in-Ok-false-clause-refused : goal.returns-in-Ok-false-clause-refused
returns-in-Ok-false-clause-refused c = subst (λ b. ComparesIn b c.args.tokens.now c.args.value.now c.args.text.now) c.in-Ok-false.field-0-test c.in-Ok-false.ensures
