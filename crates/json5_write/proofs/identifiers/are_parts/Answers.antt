use Rattle.std.proofs.Common.{sym, ◌∙◌}
use Rattle.json5_write.proofs.EscapesSplit.{shorter}
use Rattle.json5_write.proofs.NamesFound.{part_next, part_last, none_left}
use Rattle.json5_write.proofs.identifiers.are_parts.Goals as goal

pub loop-c-init : goal.loop-c-init
loop-c-init c = record { same = c.skip_name_bytes-rest.ensures.same; utf8 = c.skip_name_bytes-rest.ensures.utf8 }

pub loop-c-smaller : goal.loop-c-smaller
loop-c-smaller c = shorter _ _ _ c.in-Some.ensures

pub loop-c-preserved : goal.loop-c-preserved
loop-c-preserved c =
    let before = c.loop-c.invariant in
    record { same = before.same ∙ part_next _ _ _ _ before.utf8 c.in-Some.ensures c.is_json5_identifier.ensures c.if-not-is_json5_identifier.false; utf8 = c.in-Some.ensures.utf8 }

pub returns-then-not-is_json5_identifier : goal.returns-then-not-is_json5_identifier
returns-then-not-is_json5_identifier c =
    let before = c.loop-c.invariant in part_last _ _ _ _ before.utf8 c.in-Some.ensures c.is_json5_identifier.ensures c.if-not-is_json5_identifier.true ∙ sym before.same

pub returns : goal.returns
returns c = none_left _ c.in_default.ensures ∙ sym c.loop-c.invariant.same
