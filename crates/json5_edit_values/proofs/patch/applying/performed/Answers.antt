use Rattle.std.proofs.Common.{string_bytes}
use Rattle.json5_edit.proofs.Placed.{ok_then}
use Rattle.json5_edit_values.proofs.PatchesMade.{edited_ok, fails_move, fails_test, performs_add, performs_copy, performs_move, performs_not, performs_remove, performs_replace, performs_test}
use Rattle.json5_edit_values.proofs.patch.applying.performed.Goals as goal

pub returns-in-Add-clause-made : goal.returns-in-Add-clause-made
returns-in-Add-clause-made c =
    edited_ok c.added.result c.edited.result c.edited.ensures (λ made k. performs_add c.args.operation.now c.args.text.now c.in-Add.path c.in-Add.value c.as_slice.result.now (string_bytes made) c.in-Add.is c.as_slice.ensures.value k) c.added.ensures

pub returns-in-Remove-clause-made : goal.returns-in-Remove-clause-made
returns-in-Remove-clause-made c =
    edited_ok c.removed.result c.edited-in-Remove.result c.edited-in-Remove.ensures (λ made k. performs_remove c.args.operation.now c.args.text.now c.in-Remove.path c.as_slice-in-Remove.result.now (string_bytes made) c.in-Remove.is c.as_slice-in-Remove.ensures.value k) c.removed.ensures

pub returns-in-Replace-clause-made : goal.returns-in-Replace-clause-made
returns-in-Replace-clause-made c =
    edited_ok c.replaced.result c.edited-in-Replace.result c.edited-in-Replace.ensures (λ made k. performs_replace c.args.operation.now c.args.text.now c.in-Replace.path c.in-Replace.value c.as_slice-in-Replace.result.now (string_bytes made) c.in-Replace.is c.as_slice-in-Replace.ensures.value k) c.replaced.ensures

pub returns-in-Move-clause-made : goal.returns-in-Move-clause-made
returns-in-Move-clause-made c =
    ok_then c.moved.result (λ made k. performs_move c.args.operation.now c.args.text.now c.in-Move.from c.in-Move.path c.as_slice-in-Move.result.now c.as_slice-in-Move-2.result.now (string_bytes made) c.in-Move.is c.as_slice-in-Move.ensures.value c.as_slice-in-Move-2.ensures.value k) c.moved.ensures.made

pub returns-in-Copy-clause-made : goal.returns-in-Copy-clause-made
returns-in-Copy-clause-made c =
    edited_ok c.copied.result c.edited-in-Copy.result c.edited-in-Copy.ensures (λ made k. performs_copy c.args.operation.now c.args.text.now c.in-Copy.from c.in-Copy.path c.as_slice-in-Copy.result.now c.as_slice-in-Copy-2.result.now (string_bytes made) c.in-Copy.is c.as_slice-in-Copy.ensures.value c.as_slice-in-Copy-2.ensures.value k) c.copied.ensures

pub returns-in-Test-clause-made : goal.returns-in-Test-clause-made
returns-in-Test-clause-made c =
    ok_then c.tested.result (λ made k. performs_test c.args.operation.now c.args.text.now c.in-Test.path c.in-Test.value c.as_slice-in-Test.result.now (string_bytes made) c.in-Test.is c.as_slice-in-Test.ensures.value k) c.tested.ensures.made

pub returns-in-Add-clause-refused : goal.returns-in-Add-clause-refused
returns-in-Add-clause-refused c = performs_not c.args.operation.now c.args.text.now c.added.result c.edited.result c.edited.ensures

pub returns-in-Remove-clause-refused : goal.returns-in-Remove-clause-refused
returns-in-Remove-clause-refused c = performs_not c.args.operation.now c.args.text.now c.removed.result c.edited-in-Remove.result c.edited-in-Remove.ensures

pub returns-in-Replace-clause-refused : goal.returns-in-Replace-clause-refused
returns-in-Replace-clause-refused c = performs_not c.args.operation.now c.args.text.now c.replaced.result c.edited-in-Replace.result c.edited-in-Replace.ensures

pub returns-in-Copy-clause-refused : goal.returns-in-Copy-clause-refused
returns-in-Copy-clause-refused c = performs_not c.args.operation.now c.args.text.now c.copied.result c.edited-in-Copy.result c.edited-in-Copy.ensures

pub returns-in-Move-clause-refused : goal.returns-in-Move-clause-refused
returns-in-Move-clause-refused c =
    fails_move c.args.operation.now c.args.text.now c.in-Move.from c.in-Move.path c.as_slice-in-Move.result.now c.as_slice-in-Move-2.result.now c.moved.result c.in-Move.is c.as_slice-in-Move.ensures.value c.as_slice-in-Move-2.ensures.value c.moved.ensures.refused

pub returns-in-Test-clause-refused : goal.returns-in-Test-clause-refused
returns-in-Test-clause-refused c =
    fails_test c.args.operation.now c.args.text.now c.in-Test.path c.in-Test.value c.as_slice-in-Test.result.now c.tested.result c.in-Test.is c.as_slice-in-Test.ensures.value c.tested.ensures.refused
