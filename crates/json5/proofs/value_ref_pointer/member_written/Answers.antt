use Rattle.std.proofs.Common.{◌∙◌, ◌+◌, true, false, drop, option_map, sym, ap, arith}
use Rattle.json5.specs.ValueRefs.{ref_of, members_view}
use Rattle.json5_types.specs.Pointers.{member_written}
use Rattle.json5_types.specs.ValueLookups.{or_else}
use Rattle.json5.proofs.RefsFound.{from_here}
use Rattle.json5.proofs.RefsPointed.{at_written, past_written, written_key}
use Rattle.json5.proofs.value_ref_pointer.member_written.Goals as goal
use Rattle.json5.proofs.value_ref_pointer.member_written.Goals.{then-is_written, else-is_written}

pub loop-name-preserved : goal.loop-name-preserved
loop-name-preserved c =
    let l = c.loop-name in
    let part = c.args.part.now in
    let f = c.loop-name-item.result in
    let rest = drop (l.name-index + 1) c.args.members.now in
    let left = from_here c.args.members.now l.name-index f (omega (arith, c.loop-name-test.true)) c.loop-name-item.is in
    let found = option_map (λ v. ref_of v.now) l.found in
    elim c.if-is_written.branch [
      | then-is_written w ↦
          let named = written_key c.as_bytes.result.now part c.as_bytes-in-loop-name.result.now f c.is_written.result true c.as_bytes.ensures.utf8 (c.as_bytes.ensures.value ∙ c.as_str.ensures) c.as_bytes-in-loop-name.ensures.value c.is_written.ensures w.if-is_written.true in
          ap (λ o. or_else (member_written part (members_view rest)) (option_map (λ v. ref_of v.now) o)) w.found-is ∙ sym (at_written part f rest _ found left named) ∙ l.invariant
      | else-is_written w ↦
          let other = written_key c.as_bytes.result.now part c.as_bytes-in-loop-name.result.now f c.is_written.result false c.as_bytes.ensures.utf8 (c.as_bytes.ensures.value ∙ c.as_str.ensures) c.as_bytes-in-loop-name.ensures.value c.is_written.ensures w.if-is_written.false in
          ap (λ o. or_else (member_written part (members_view rest)) (option_map (λ v. ref_of v.now) o)) w.found-is ∙ sym (past_written part f rest _ found left other) ∙ l.invariant
    ]
