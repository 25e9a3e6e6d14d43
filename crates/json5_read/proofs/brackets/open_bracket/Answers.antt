use Rattle.std.proofs.Common.{arith}
use Rattle.json5_read.specs.Brackets.{bracket_of}
use Rattle.json5_read.proofs.SkipScalars.{bracket_too_deep, bracket_opened}
use Rattle.json5_read.proofs.UnexpectedCharacters.{opening_is}
use Rattle.json5_read.proofs.brackets.open_bracket.Goals as goal

pub returns-then-room-eq0 : goal.returns-then-room-eq0
returns-then-room-eq0 g c =
    bracket_too_deep c.args.room c.args.scanner.now (bracket_of c.args.kind) c.leave_here.new.fault c.requires.ready c.requires.sign c.if-room-eq0.true c.leave_here.ensures.kind c.leave_here.ensures.placed

pub returns : goal.returns
returns g c =
    let some = c.if-room-eq0.false in
    bracket_opened c.args.room c.args.scanner.now c.eat.new.self _ c.brackets.result.opening c.eat.result c.requires.ready c.requires.sign (omega (arith, some)) c.offset-start.ensures.counted (opening_is c.args.kind c.brackets.result c.brackets.ensures) c.eat.ensures.taken c.eat.ensures.kept
