use Rattle.std.proofs.Common.{ℕ, List, subst}
use Rattle.json5_write.specs.Pieces.{AppendsFront}
use Rattle.cli_files.proofs.LinesJoined.{fault_joined}
use Rattle.cli_files.proofs.reports.say_fault.Goals as goal

pub returns : goal.returns
returns g c =
    let e = c.args.error.now in
    subst (λ (bytes : List ℕ). AppendsFront (g.E.Write.contents c.args.e.now) (g.E.Write.contents c.say_of-2.new.e) bytes)
    (fault_joined c.args.name.now c.message-message.result.now c.format-line.result.now c.format-column.result.now e c.in-Some.position c.message-message.ensures c.in-Some.ensures c.format-line.ensures.text c.format-column.ensures.text)
    c.say_of-2.ensures
