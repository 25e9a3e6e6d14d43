use Rattle.std.proofs.Common.{refl}
use Rattle.std.specs.Str.{chars}
use Rattle.json5_grammar.proofs.BlanksRead.{printable_no_blank}
use Rattle.json5_lexemes.proofs.PiecesPassed.{none_in_comment, block_piece, line_piece}
use Rattle.json5_lexemes.proofs.pieces.pass_comment.Goals as goal

pub returns-in_default : goal.returns-in_default
returns-in_default c = none_in_comment (chars c.args.after.now) (printable_no_blank 47 refl) c.in_default.ensures

pub returns-in-Some-past_byte : goal.returns-in-Some-past_byte
returns-in-Some-past_byte c = block_piece (chars c.args.after.now) _ _ c.in-Some-past_byte.ensures.chars ((c.in-Some.ensures _).1 refl)

pub returns-in-None : goal.returns-in-None
returns-in-None c = line_piece (chars c.args.after.now) _ c.in-None.ensures ((c.in-Some.ensures _).1 refl)
