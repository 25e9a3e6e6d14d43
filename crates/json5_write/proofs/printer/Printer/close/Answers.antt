use Rattle.std.proofs.Common.{ap, ◌∙◌, [], ◌∷◌, ◌-◌}
use Rattle.json5_grammar.specs.Faults.Fronts.{closing}
use Rattle.json5_write.specs.Brackets.{bracket_of}
use Rattle.json5_write.specs.Out.{line, piece}
use Rattle.json5_write.proofs.OutputsJoined.{Reaches-first}
use Rattle.json5_write.proofs.Commas.{lowered}
use Rattle.json5_write.proofs.ShortWritesJoined.{Puts-stop, Reaches-end}
use Rattle.json5_write.proofs.printer.Printer.close.Goals as goal

pub returns-in_err-start_line : goal.returns-in_err-start_line
returns-in_err-start_line g c =
    let lower = lowered _ _ _ _ _ c.args.self.now c.self.view_is c.saturating_sub-self-inside.ensures in
    let less = c.saturating_sub-self-inside.ensures ∙ ap (λ s. s.depth - 1) c.self.view_is in
    let starts = rw (lower, less) at c.in_err-start_line.ensures in
    let bracket = closing (bracket_of c.args.brackets) in
    rw c.if-not-has_member.false (Puts-stop (piece (line (c.args.self.now.depth - 1))) (piece (bracket ∷ [])) _ _ _ _ c.from_residual.ensures.1 starts)

pub returns : goal.returns
returns g c =
    let lower = lowered _ _ _ _ _ c.args.self.now c.self.view_is c.saturating_sub-self-inside.ensures in
    let less = c.saturating_sub-self-inside.ensures ∙ ap (λ s. s.depth - 1) c.self.view_is in
    let starts = rw (lower, less) at c.in_ok-start_line.ensures in
    let bracket = rw c.closing-2.ensures at c.put_piece-2.ensures in
    rw c.if-not-has_member.false (Reaches-end _ (piece (closing (bracket_of c.args.brackets) ∷ [])) _ _ _ _ (Reaches-first (piece (line (c.args.self.now.depth - 1))) _ _ _ starts) bracket)
