use Rattle.std.proofs.Common.{sym, subst}
use Rattle.std.specs.Str.{chars}
use Rattle.json5_lexemes.specs.Pieces.{IsPiece}
use Rattle.json5_convert.specs.SpelledAnew.{BeginsComment}
use Rattle.json5_convert.proofs.CommentsPassed.{block_front, line_front}
use Rattle.json5_convert.proofs.spelled_anew.skip_comment.Goals as goal

pub returns-in-Some-Line : goal.returns-in-Some-Line
returns-in-Some-Line c =
    let piece = subst (λ p. IsPiece p c.new-pieces.result c.next.new.self) c.in-Some-Line.field-0-is c.in-Some-Line.ensures.steps in
    (c.as_str.utf8, subst (λ x. BeginsComment x (chars c.as_str.result.now)) c.new-pieces.ensures (subst (λ r. BeginsComment c.new-pieces.result r) (sym c.as_str.ensures) (line_front piece)))

pub returns-in-Some-Block : goal.returns-in-Some-Block
returns-in-Some-Block c =
    let piece = subst (λ p. IsPiece p c.new-pieces.result c.next.new.self) c.in-Some-Block.field-0-is c.in-Some-Block.ensures.steps in
    (c.as_str-in-Some-Block.utf8, subst (λ x. BeginsComment x (chars c.as_str-in-Some-Block.result.now)) c.new-pieces.ensures (subst (λ r. BeginsComment c.new-pieces.result r) (sym c.as_str-in-Some-Block.ensures) (block_front piece)))
