use Rattle.std.proofs.Common.{sym, ◌∙◌, subst, Ok}
use Rattle.json5_read.specs.ModelSteps.{IsInside, answered}
use Rattle.json5_read.proofs.FoundEntries.{colon_refused}
use Rattle.json5_read.proofs.ShortEntries.{colon_took, colon_stepped, space_stepped, nothing_stepped, ready_eaten}
use Rattle.json5_read.proofs.ModelSteps.{ready_after}
use Rattle.json5_read.proofs.entries.skip_colon.Goals as goal

pub returns-in_err-find_colon : goal.returns-in_err-find_colon
returns-in_err-find_colon g c =
    let old = c.short_colon.new.scanner in
    let new = c.find_colon.new.scanner in
    let k = c.in_err-find_colon.ensures in
    rw (← c.if-not-short_colon.ensures, c.from_residual.ensures) (colon_refused old new c.find_colon.new.fault (subst IsInside (sym c.if-not-short_colon.ensures) c.requires) k.refused k.same_text)

pub skip_blank-requires : goal.skip_blank-requires
skip_blank-requires g c =
    let old = c.short_colon.new.scanner in
    let mid = c.find_colon.new.scanner in
    let k = c.in_ok-find_colon.ensures in
    ready_after old mid _ (subst IsInside (sym c.if-not-short_colon.ensures) c.requires) (colon_took old mid k.found)

pub returns-then-not-short_colon : goal.returns-then-not-short_colon
returns-then-not-short_colon g c =
    let old = c.short_colon.new.scanner in
    let mid = c.find_colon.new.scanner in
    let k = c.in_ok-find_colon.ensures in
    rw (← c.if-not-short_colon.ensures) (colon_stepped old mid c.skip_blank.new.scanner (answered c.skip_blank.result c.skip_blank.new.fault) k.found c.skip_blank.ensures)

pub returns-in-Some : goal.returns-in-Some
returns-in-Some g c =
    let mid = c.short_colon.new.scanner in
    let new = c.eat.new.self in
    colon_stepped c.args.scanner.now mid new (Ok tt) c.if-not-short_colon.ensures
    (space_stepped mid new new c.eat.result (Ok tt) c.eat.ensures.taken c.eat.ensures.kept (nothing_stepped new c.in-Some.c (sym c.peek.ensures ∙ c.in-Some.is) (c.is_visible.ensures c.if-is_visible.true)))

pub skip_blank-requires-in_default : goal.skip_blank-requires-in_default
skip_blank-requires-in_default g c =
    let mid = c.short_colon.new.scanner in
    ready_eaten mid c.eat.new.self 32 c.eat.result (ready_after c.args.scanner.now mid _ c.requires (colon_took c.args.scanner.now mid c.if-not-short_colon.ensures)) c.eat.ensures.taken c.eat.ensures.kept

pub returns-in_default : goal.returns-in_default
returns-in_default g c =
    let mid = c.short_colon.new.scanner in
    let new = c.skip_blank-in_default.new.scanner in
    let result = answered c.skip_blank-in_default.result c.skip_blank-in_default.new.fault in
    colon_stepped c.args.scanner.now mid new result c.if-not-short_colon.ensures
    (space_stepped mid c.eat.new.self new c.eat.result result c.eat.ensures.taken c.eat.ensures.kept c.skip_blank-in_default.ensures)
