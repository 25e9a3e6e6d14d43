use Rattle.std.proofs.Common.{arith, sym, ap, ◌∙◌, string_bytes}
use Rattle.json5_types.proofs.MembersSpotted.{place_added}
use Rattle.json5_types.proofs.value_merge.last_places.Goals as goal

pub loop-place-preserved : goal.loop-place-preserved
loop-place-preserved c = λ q h. place_added c.args.fields.now c.loop-place.place _ c.index-fields-place.result c.as_str.result.now q.now _ _ (omega arith) (omega arith) c.index-fields-place.is (c.as_str.ensures.value ∙ ap (λ m. string_bytes m.0) (sym c.index-fields-place.is)) c.as_str.utf8 h (c.in_ok-insert.ensures.updates.0 q) (c.loop-place.invariant q h)
