use Rattle.std.proofs.Common.{◌∙◌, ◌+◌, true, false, drop, option_map, sym, ap, arith}
use Rattle.std.specs.Str.{chars}
use Rattle.json5.specs.ValueRefs.{ref_of, members_view}
use Rattle.json5_types.specs.ValueLookups.{or_else, last_named}
use Rattle.json5.proofs.RefsFound.{at_name, past_name, from_here, same_key}
use Rattle.json5.proofs.value_ref_finds.last_named.Goals as goal
use Rattle.json5.proofs.value_ref_finds.last_named.Goals.{then-eq, else-eq}

pub loop-name-preserved : goal.loop-name-preserved
loop-name-preserved c =
    let l = c.loop-name in
    let f = c.loop-name-item.result in
    let rest = drop (l.name-index + 1) c.args.members.now in
    let left = from_here c.args.members.now l.name-index f (omega (arith, c.loop-name-test.true)) c.loop-name-item.is in
    let found = option_map (λ v. ref_of v.now) l.found in
    elim c.if-eq.branch [
      | then-eq w ↦
          let named = same_key c.as_str.result.now c.args.key.now f c.eq.result true c.as_str.utf8 c.utf8.key c.as_str.ensures c.eq.ensures w.if-eq.true in
          ap (λ o. or_else (last_named (chars c.args.key.now) (members_view rest)) (option_map (λ v. ref_of v.now) o)) w.found-is ∙ sym (at_name (chars c.args.key.now) f rest _ found left named) ∙ l.invariant
      | else-eq w ↦
          let other = same_key c.as_str.result.now c.args.key.now f c.eq.result false c.as_str.utf8 c.utf8.key c.as_str.ensures c.eq.ensures w.if-eq.false in
          ap (λ o. or_else (last_named (chars c.args.key.now) (members_view rest)) (option_map (λ v. ref_of v.now) o)) w.found-is ∙ sym (past_name (chars c.args.key.now) f rest _ found left other) ∙ l.invariant
    ]
