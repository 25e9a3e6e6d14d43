use Rattle.std.proofs.Common.{sym, subst}
use Rattle.json5_edit_style.specs.Comments.{CommentLines}
use Rattle.json5_lexemes.specs.Pieces.{IsPiece}
use Rattle.json5_edit_style.proofs.CommentsPassed.{blank_after, end_after, line_after, block_after}
use Rattle.json5_edit_style.proofs.comments.has_after.Goals as goal

pub returns-in-Blank : goal.returns-in-Blank
returns-in-Blank c = λ one x r e p l. blank_after c.args.has one x r (subst (λ q. IsPiece q x r) c.in-Blank.is p) l

pub returns-in-LineEnd : goal.returns-in-LineEnd
returns-in-LineEnd c = λ one x r e p l. subst (λ h. CommentLines one h x) (sym c.if-has.true) (end_after one x r (e c.in-LineEnd.is) (subst (λ q. IsPiece q x r) c.in-LineEnd.is p) l)

pub returns-in-Line : goal.returns-in-Line
returns-in-Line c = λ one x r e p l. line_after c.args.has one x r (subst (λ q. IsPiece q x r) c.in-Line.is p) l

pub returns-in-Block : goal.returns-in-Block
returns-in-Block c = λ one x r e p l. block_after c.args.has one x r (subst (λ q. IsPiece q x r) c.in-Block.is p) l
