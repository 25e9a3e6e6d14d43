use Rattle.std.proofs.Common.{Ok, Err}
use Rattle.json5_read.specs.ModelSteps.{IsInside}
use Rattle.json5_read.proofs.SkipInvariant.{ready_opened}
use Rattle.json5_read.proofs.SkipTurns.{bracket_passed}
use Rattle.json5_read.proofs.skip.skip_value.Goals as goal

pub skip_bracket-requires-clause-ready : goal.skip_bracket-requires-clause-ready
skip_bracket-requires-clause-ready g c =
    let (before, inside) = c.offset-offset.ensures.suffix in
    ready_opened c.args.room c.in-Some-Some.bracket c.args.scanner.now c.skip_or_open.new.scanner (record { before = before; inside = inside }) (rw c.in-Some-Some.field-0-is at c.in-Some-Some.ensures.begun)

pub returns-in-None-skip_bracket : goal.returns-in-None-skip_bracket
returns-in-None-skip_bracket g c =
    let (before, inside) = c.offset-offset.ensures.suffix in
    let ready : IsInside c.args.scanner.now = record { before = before; inside = inside } in
    bracket_passed c.args.room c.in-Some-Some.bracket c.args.scanner.now c.skip_or_open.new.scanner c.skip_bracket.new.scanner (Err c.skip_bracket.new.fault) ready (rw c.in-Some-Some.field-0-is at c.in-Some-Some.ensures.begun) c.in-None-skip_bracket.ensures

pub returns-in-Some : goal.returns-in-Some
returns-in-Some g c =
    let (before, inside) = c.offset-offset.ensures.suffix in
    let ready : IsInside c.args.scanner.now = record { before = before; inside = inside } in
    bracket_passed c.args.room c.in-Some-Some.bracket c.args.scanner.now c.skip_or_open.new.scanner c.skip_bracket.new.scanner (Ok tt) ready (rw c.in-Some-Some.field-0-is at c.in-Some-Some.ensures.begun) c.in-Some.ensures
