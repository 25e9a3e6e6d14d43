use Rattle.std.proofs.Common.{◌∙◌, ◌-◌, ap, arith, string_bytes, sym}
use Rattle.json5_schema.proofs.Latest.{kept_step, passed_step, same_at}
use Rattle.json5_schema.proofs.members.latest_first.Goals as goal

pub loop-index-preserved-in-Continue-branch-2 : goal.loop-index-preserved-in-Continue-branch-2
loop-index-preserved-in-Continue-branch-2 c =
    let l = c.loop-index in
    let f = c.index-members-index.result in
    let named = c.as_str-name.ensures.value ∙ ap (λ m. string_bytes m.0) (sym c.index-members-index.is) in
    let there = c.index-members-index-then-branch.is in
    let again = same_at c.args.members.now (l.index - 1) f c.index-members-index-then-branch.result (omega arith) c.index-members-index.is there in
    let step = kept_step c.args.members.now (l.index - 1) l.index f c.as_str-name.result l.seen c.insert.new.self l.found.items c.in_ok-insert.field-0 (omega arith) (omega arith) c.index-members-index.is named c.as_str-name.utf8 c.in_ok-insert.ensures.added
    (λ q. c.in_ok-insert.ensures.updates.0 q) l.invariant.1 l.invariant.2 c.push.new.self.items _ c.in_ok-push.ensures.items c.if-branch.true named (cc) in
    (omega arith, step.0, step.1)

pub loop-index-preserved : goal.loop-index-preserved
loop-index-preserved c =
    let l = c.loop-index in
    let named = c.as_str-name.ensures.value ∙ ap (λ m. string_bytes m.0) (sym c.index-members-index.is) in
    let step = passed_step c.args.members.now (l.index - 1) l.index c.index-members-index.result c.as_str-name.result l.seen c.insert.new.self l.found.items c.in_ok-insert.field-0 (omega arith) (omega arith) c.index-members-index.is named c.as_str-name.utf8 c.in_ok-insert.ensures.added
    (λ q. c.in_ok-insert.ensures.updates.0 q) l.invariant.1 l.invariant.2 c.if-branch.false in
    (omega arith, step.0, step.1)
