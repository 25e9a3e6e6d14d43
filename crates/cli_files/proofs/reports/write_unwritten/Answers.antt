use Rattle.std.proofs.Common.{ℕ, List, ◌++◌, sym, ◌∙◌, subst}
use Rattle.json5_write.specs.Pieces.{Pushes}
use Rattle.cli_files.proofs.LinesJoined.{words_joined}
use Rattle.cli_files.proofs.PiecesJoined.{both_pushed, front_pushed}
use Rattle.cli_files.proofs.reports.write_unwritten.Goals as goal

pub returns-then-is_err : goal.returns-then-is_err
returns-then-is_err g c =
    let said = c.words.result in
    rw c.words.ensures
    (subst (λ (bytes : List ℕ). Pushes (g.E.Write.contents c.args.e.now) (g.E.Write.contents c.write_named-written.new.w) bytes c.write_named-written.result) (words_joined c.args.name.now said.0.now said.1.now said.2.now)
    (front_pushed _ _ _ _ c.write_named-written.result (sym c.is_err.ensures.value ∙ c.if-is_err.true) c.write_named-written.ensures))

pub returns : goal.returns
returns g c =
    let said = c.words.result in
    rw c.words.ensures
    (subst (λ (bytes : List ℕ). Pushes (g.E.Write.contents c.args.e.now) (g.E.Write.contents c.write_named.new.w) bytes c.write_named.result) (words_joined c.args.name.now said.0.now said.1.now said.2.now)
    (both_pushed _ _ _ _ _ c.write_named-written.result c.write_named.result (sym c.is_err.ensures.value ∙ c.if-is_err.false) c.write_named-written.ensures c.write_named.ensures))
