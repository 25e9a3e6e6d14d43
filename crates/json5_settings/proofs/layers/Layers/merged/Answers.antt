use Rattle.std.proofs.Common.{◌<◌, length, arith}
use Rattle.std.proofs.lemmas.Result.{err_from_is_err_and}
use Rattle.json5_types.specs.ValueMeanings.{value_of, object, no_field}
use Rattle.json5_settings.proofs.Layered.{document_there, stacked_on}
use Rattle.json5_settings.proofs.layers.Layers.merged.Goals as goal

pub returns-in_err-layer-clause-refused : goal.returns-in_err-layer-clause-refused
returns-in_err-layer-clause-refused c =
    let all = c.self.inside.layers.items in
    let within : c.loop-index.index < length all = omega (arith, c.loop-index-test.true, c.len-index-end.ensures) in
    let (t, document) = document_there c.loop-index.index all _ c.index.result.now _ within c.index.ensures c.deref.ensures c.self.invariant in
    let (y, is, from) = err_from_is_err_and c.from_residual.result c.from_residual.ensures.1 in
    rw (is, from) (c.in_err-layer.ensures.complete t document)

pub loop-index-preserved : goal.loop-index-preserved
loop-index-preserved c =
    let all = c.self.inside.layers.items in
    let within : c.loop-index.index < length all = omega (arith, c.loop-index-test.true, c.len-index-end.ensures) in
    stacked_on c.loop-index.index all _ c.index.result.now _ (object no_field) (value_of c.loop-index.value) (value_of c.in_ok-layer.layer) _ within c.index.ensures c.deref.ensures c.loop-index.invariant c.in_ok-layer.ensures.sound c.in_ok-merge.ensures.merges
