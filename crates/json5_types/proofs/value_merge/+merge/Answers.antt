use Rattle.std.proofs.Common.{arith, refl, ◌∙◌, String, string_bytes}
use Rattle.std.specs.declared.alloc.Global.{Global}
use Rattle.std.specs.Str.{chars}
use Rattle.json5_types.specs.declared.value.Value.{Value}
use Rattle.json5_types.specs.ValueMeanings.{value_of}
use Rattle.json5_types.proofs.MembersMerged.{shallower}
use Rattle.json5_types.proofs.MembersSpotted.{spot_there, spot_new, spot_outside, next_turn}
use Rattle.json5_types.proofs.value_merge.+merge.Goals as goal

pub merge_member-returns-else-len-place-clause-merges : goal.merge_member-returns-else-len-place-clause-merges
merge_member-returns-else-len-place-clause-merges t c =
    let is = rw (← c.replace-key.ensures.value) at c.index_mut.ensures.value in
    spot_there (chars (string_bytes c.args.key)) c.args.fields.now.items c.in-Known.place c.args.spot c.replace-key.new.dest c.replace-key.result c.merge_value-outcome.new.value (value_of c.args.value) c.merge_value-outcome.result c.in-Known.is is c.merge_value-outcome.ensures.merges

pub merge_member-returns-then-len-place-clause-merges : goal.merge_member-returns-then-len-place-clause-merges
merge_member-returns-then-len-place-clause-merges t c = spot_outside (chars (string_bytes c.args.key)) (value_of c.args.value) c.args.fields.now.items c.in-Known.place c.args.spot c.in-Known.is (omega (arith, c.args.fields.now.ok))

pub merge_member-returns-in_ok-push-in-New-clause-merges : goal.merge_member-returns-in_ok-push-in-New-clause-merges
merge_member-returns-in_ok-push-in-New-clause-merges t c = spot_new (chars (string_bytes c.args.key)) c.args.key c.args.value c.args.fields.now.items c.push.new.self.items c.args.spot c.in-New.is refl c.in_ok-push-in-New.ensures.items

pub merge_members-loop-key-preserved : goal.merge_members-loop-key-preserved
merge_members-loop-key-preserved t c =
    let rest = c.loop-key.rest.items in
    let new = c.pop.new.self.items in
    let f : String Global × Value = (c.in-Some.key, c.in-Some.value) in
    let next = next_turn rest new f c.loop-key.spots.items c.pop-in-Some.new.self.items c.pop-in-Some.result c.unwrap_or-spot.result c.loop-key.fields.items c.merge_member.new.fields.items c.in-Some.ensures.items c.pop-in-Some.ensures.items (λ x. let p = c.pop-in-Some.ensures.variant.0 x in omega (arith, p, c.loop-key.spots.ok), λ x. c.pop-in-Some.ensures.variant.1 (omega (arith, x, c.loop-key.spots.ok))) c.unwrap_or-spot.ensures c.loop-key.invariant.spotted c.in_ok-merge_member.ensures.merges in
    record {
      whole = next.0 ∙ c.loop-key.invariant.whole;
      inside = shallower rest new f _ c.in-Some.ensures.items c.loop-key.invariant.inside;
      spotted = next.1;
    }
