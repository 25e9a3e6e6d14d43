use Rattle.std.proofs.Common.{sym, subst}
use Rattle.json5_read.specs.ModelSteps.{IsInside, answered}
use Rattle.json5_read.proofs.EntryValues.{key_at_end, key_is_string, key_is_name}
use Rattle.json5_read.proofs.ShortEntries.{key_stepped}
use Rattle.json5_read.proofs.TokenSteps.{string_step, name_step}
use Rattle.json5_read.proofs.entries.skip_key.Goals as goal

pub returns-in-Some : goal.returns-in-Some
returns-in-Some g c = key_stepped c.args.scanner.now c.short_key.new.self _ c.requires.solid c.in-Some.ensures

pub returns-in_default-peek : goal.returns-in_default-peek
returns-in_default-peek g c =
    rw (← c.in_default.ensures) (key_at_end c.short_key.new.self c.peek.result c.leave_code.new.fault c.peek.ensures c.in_default-peek.is c.leave_code.ensures.kind c.leave_code.ensures.place)

pub returns-then-is_quote : goal.returns-then-is_quote
returns-then-is_quote g c =
    let now = c.short_key.new.self in
    let ready = subst IsInside (sym c.in_default.ensures) c.requires.ready in
    rw (← c.in_default.ensures) (key_is_string now c.skip_string.new.scanner (answered c.skip_string.result c.skip_string.new.fault) c.peek.result c.in-Some-peek.c c.is_quote.result c.peek.ensures c.in-Some-peek.is c.is_quote.ensures c.if-is_quote.true
    (λ d r x h. string_step now c.skip_string.new.scanner (answered c.skip_string.result c.skip_string.new.fault) d r ready x h c.skip_string.ensures))

pub returns : goal.returns
returns g c =
    let now = c.short_key.new.self in
    let ready = subst IsInside (sym c.in_default.ensures) c.requires.ready in
    rw (← c.in_default.ensures) (key_is_name now c.skip_identifier.new.scanner (answered c.skip_identifier.result c.skip_identifier.new.fault) c.peek.result c.in-Some-peek.c c.is_quote.result c.peek.ensures c.in-Some-peek.is c.is_quote.ensures c.if-is_quote.false
    (name_step now c.skip_identifier.new.scanner (answered c.skip_identifier.result c.skip_identifier.new.fault) ready c.skip_identifier.ensures))
