use Rattle.std.proofs.Common.{◌<◌, length, rules, subst}
use Rattle.std.specs.Str.{chars}
use Rattle.json5_lexemes.proofs.PiecesPassed.{piece_shorter}
use Rattle.json5_lexemes.proofs.pieces.PiecesIterator.next.Goals as goal

pub returns-clause-goes : goal.returns-clause-goes
returns-clause-goes c =
    let shorter = subst (λ z. length (chars c.in-Some.rest.now) < length z) c.self.view_is (piece_shorter c.in-Some.piece c.in-Some.ensures) in
    search rules
