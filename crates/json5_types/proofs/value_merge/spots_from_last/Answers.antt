use Rattle.std.proofs.Common.{ap, sym, ◌∙◌, ◌-◌, arith, reverse, string_bytes}
use Rattle.std.specs.Str.{chars}
use Rattle.json5_types.proofs.MembersSpotted.{spot_added}
use Rattle.json5_types.proofs.value_merge.spots_from_last.Goals as goal

pub loop-left-preserved : goal.loop-left-preserved
loop-left-preserved c =
    let key = c.as_str.result in
    let named = c.as_str.ensures.value in
    let theirs = c.in_ok-theirs.ensures.found key c.as_str.utf8 in
    let ours = c.in_ok-ours.ensures.found key c.as_str.utf8 in
    let spotted = rw (theirs, ours) at c.find_spot.ensures in
    let f = c.index-others-left.result in
    let is = ap (λ m. chars (string_bytes m.0)) c.index-others-left.is ∙ ap chars (sym named) in
    (omega arith, ap reverse c.in_ok-push.ensures.items ∙ spot_added c.args.others.now c.args.fields.now (c.loop-left.left - 1) c.loop-left.left f (chars key.now) c.loop-left.spots.items c.find_spot.result (omega arith) (omega arith) c.index-others-left.is is spotted c.loop-left.invariant.1)
