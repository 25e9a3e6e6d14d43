use Rattle.std.proofs.Common.{sym, ◌∙◌, string_bytes}
use Rattle.json5_edit_values.specs.Patches.{RefusesMove}
use Rattle.json5_edit_values.proofs.PatchesMade.{edited_err, edited_ok, moves_apart}
use Rattle.json5_edit_values.proofs.patch.applying.moved.Goals as goal

pub returns-clause-made : goal.returns-clause-made
returns-clause-made c =
    let apart = sym c.is_within.ensures ∙ c.if-is_within.false in
    edited_ok c.moved_out.result c.edited.result c.edited.ensures (λ made k. moves_apart c.args.from.now c.args.path.now c.args.text.now (string_bytes made) apart k) c.moved_out.ensures

pub returns-clause-refused : goal.returns-clause-refused
returns-clause-refused c = edited_err (RefusesMove c.args.from.now c.args.path.now) c.moved_out.result c.edited.result c.edited.ensures (λ x. tt)

pub returns-then-is_within-clause-refused : goal.returns-then-is_within-clause-refused
returns-then-is_within-clause-refused c = sym c.is_within.ensures ∙ c.if-is_within.true
