use Rattle.std.proofs.Common.{◌≡◌, true, sym, subst}
use Rattle.std.specs.Str.{all_scalars}
use Rattle.json5_tokens.specs.Cursor.{Cursor}
use Rattle.json5_read.specs.ModelSteps.{IsInside, answered}
use Rattle.json5_read.proofs.BuildKeys.{key_found, no_key_left, key_taken}
use Rattle.json5_read.proofs.owned_tokens.take_key.Goals as goal

pub returns-in-Some : goal.returns-in-Some
returns-in-Some g c = key_found c.args.scanner.now c.short_key.new.self c.in-Some.span c.requires.solid c.offset-offset.ensures.scalars c.in-Some.ensures

pub returns-then-is_none : goal.returns-then-is_none
returns-then-is_none g c =
    rw (← c.in_default.ensures) (no_key_left c.short_key.new.self c.peek.result c.is_none.result c.leave_code.new.fault c.peek.ensures c.is_none.ensures c.if-is_none.true c.leave_code.ensures.kind c.leave_code.ensures.place)

pub returns : goal.returns
returns g c =
    let now = c.short_key.new.self in
    let ready = subst IsInside (sym c.in_default.ensures) c.requires.ready in
    let scalars = subst (λ (s : Cursor). all_scalars s.unread ≡ true) (sym c.in_default.ensures) c.offset-offset.ensures.scalars in
    rw (← c.in_default.ensures) (key_taken now c.find_key.new.scanner c.peek.result c.is_none.result (answered c.find_key.result c.find_key.new.fault) c.peek.ensures c.is_none.ensures c.if-is_none.false ready scalars c.find_key.ensures)
