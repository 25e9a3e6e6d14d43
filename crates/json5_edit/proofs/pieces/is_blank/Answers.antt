use Rattle.std.proofs.Common.{subst}
use Rattle.std.specs.Str.{chars}
use Rattle.json5_lexemes.specs.Lexemes.{HaveSameLexemes}
use Rattle.json5_edit.proofs.PiecesJoined.{no_characters}
use Rattle.json5_edit.proofs.pieces.is_blank.Goals as goal

pub returns : goal.returns
returns c = λ same. subst (HaveSameLexemes (chars c.args.text.now)) no_characters (c.same_lexemes.ensures same)
