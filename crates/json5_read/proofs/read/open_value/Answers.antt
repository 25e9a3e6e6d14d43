use Rattle.std.proofs.Common.{subst}
use Rattle.json5_read.specs.Opening.{OpenedAt}
use Rattle.json5_read.specs.ModelSteps.{answered}
use Rattle.json5_read.proofs.BuildValues.{room_left, bracket_refused, array_begun, object_begun}
use Rattle.json5_read.proofs.SkipInvariant.{ready_opened}
use Rattle.json5_read.proofs.read.open_value.Goals as goal

pub returns-in_err-bracket : goal.returns-in_err-bracket
returns-in_err-bracket g c =
    let d = room_left c.args.room c.args.stack.now c.len-open.result c.saturating_sub-left.result c.len-open.ensures c.saturating_sub-left.ensures in
    rw c.from_residual.ensures (bracket_refused c.args.room c.saturating_sub-left.result c.args.kind c.args.stack.now.items c.args.scanner.now c.open_bracket.new.scanner c.open_bracket.new.fault d c.requires.sign c.in_err-bracket.ensures)

pub resume_array-requires : goal.resume_array-requires
resume_array-requires g c = ready_opened _ c.in_ok-bracket.bracket c.args.scanner.now c.open_bracket.new.scanner c.requires.ready c.in_ok-bracket.ensures.opened

pub resume_object-requires : goal.resume_object-requires
resume_object-requires g c = ready_opened _ c.in_ok-bracket.bracket c.args.scanner.now c.open_bracket.new.scanner c.requires.ready c.in_ok-bracket.ensures.opened

pub returns-in-Array : goal.returns-in-Array
returns-in-Array g c =
    let fs = c.args.stack.now.items in
    let old = c.args.scanner.now in
    let mid = c.open_bracket.new.scanner in
    let d = room_left c.args.room c.args.stack.now c.len-open.result c.saturating_sub-left.result c.len-open.ensures c.saturating_sub-left.ensures in
    array_begun c.args.room c.args.kind fs c.resume_array.new.stack.items c.in_ok-bracket.bracket c.new.result old mid c.resume_array.new.scanner (answered c.resume_array.result c.resume_array.new.fault) c.requires.ready
    (subst (λ z. OpenedAt z c.in_ok-bracket.bracket old mid) d c.in_ok-bracket.ensures.opened) c.in-Array.is c.new.ensures.items c.resume_array.ensures

pub returns-in-Object : goal.returns-in-Object
returns-in-Object g c =
    let fs = c.args.stack.now.items in
    let old = c.args.scanner.now in
    let mid = c.open_bracket.new.scanner in
    let d = room_left c.args.room c.args.stack.now c.len-open.result c.saturating_sub-left.result c.len-open.ensures c.saturating_sub-left.ensures in
    object_begun c.args.room c.args.kind fs c.resume_object.new.stack.items c.in_ok-bracket.bracket c.new-in-Object.result old mid c.resume_object.new.scanner (answered c.resume_object.result c.resume_object.new.fault) c.requires.ready
    (subst (λ z. OpenedAt z c.in_ok-bracket.bracket old mid) d c.in_ok-bracket.ensures.opened) c.in-Object.is c.new-in-Object.ensures.items c.resume_object.ensures
