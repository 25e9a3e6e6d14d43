use Rattle.std.proofs.Common.{◌<◌, arith, length, subst, string_bytes}
use Rattle.json5_edit.specs.Changes.{ChangesBy}
use Rattle.json5_edit_values.specs.Patches.{FailsIn, Performs}
use Rattle.json5_edit_values.proofs.PatchesMade.{failed_on, patched_on, unread}
use Rattle.json5_edit_values.proofs.patch.applying.apply_patch_in.Goals as goal

pub loop-operation-preserved : goal.loop-operation-preserved
loop-operation-preserved c =
    let all = c.args.patch.now.operations.items in
    let done = subst (λ z. ChangesBy (Performs c.index.result.now) z (string_bytes c.in-Ok-performed.new)) c.as_str.ensures.value c.in-Ok-performed.ensures.made in
    let within : c.loop-operation.operation < length all = omega (arith, c.loop-operation-test.true, c.len-operation-end.ensures) in
    patched_on c.loop-operation.operation all _ c.index.result.now c.args.text.now (string_bytes c.loop-operation.made) (string_bytes c.in-Ok-performed.new) within c.index.ensures c.loop-operation.invariant done

pub returns-in-Err : goal.returns-in-Err
returns-in-Err c = unread c.args.patch.now.operations.items c.args.text.now 0 c.in-Err.error c.in-Err.ensures.refused

pub returns-in-Err-performed : goal.returns-in-Err-performed
returns-in-Err-performed c =
    let all = c.args.patch.now.operations.items in
    let fails = subst (λ z. FailsIn c.index.result.now z c.in-Err-performed.trouble) c.as_str.ensures.value c.in-Err-performed.ensures.refused in
    let within : c.loop-operation.operation < length all = omega (arith, c.loop-operation-test.true, c.len-operation-end.ensures) in
    failed_on c.loop-operation.operation all _ c.index.result.now c.args.text.now (string_bytes c.loop-operation.made) c.in-Err-performed.trouble within c.index.ensures c.loop-operation.invariant fails
