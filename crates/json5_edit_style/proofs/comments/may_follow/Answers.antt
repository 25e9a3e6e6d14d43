use Rattle.std.proofs.Common.{◌≡◌, sym, ◌∙◌}
use Rattle.std.specs.Str.{chars}
use Rattle.json5_lexemes.specs.SameLexemes.{is_line_part}
use Rattle.json5_lexemes.specs.declared.pieces.Piece.TheVariants as piece
use Rattle.json5_edit_style.proofs.CommentsPassed.{not_begun_on}
use Rattle.json5_edit_style.proofs.comments.may_follow.Goals as goal

pub returns-then-is_some : goal.returns-then-is_some
returns-then-is_some c = λ yes. (
  λ e. let same : piece.Line ≡ piece.LineEnd = sym c.in-Line.is ∙ e in absurd (cc),
  λ is n. not_begun_on is_line_part c.args.rest.now (chars c.args.back.now) c.front.result c.front.ensures (sym c.is_some.ensures ∙ c.if-is_some.true) n,
)
