-- Passing over blanks as a function on lists.
-- A promise rests on this.
use Rattle.std.specs.Prelude.{ℕ, cond, ◌==◌, List, [], ◌∷◌, Some}
use Rattle.json5_grammar.specs.Language.Characters.{star_sign, slash_sign, is_terminator, is_blank}
use Rattle.json5_grammar.specs.Faults.Codes.{EofParsingComment, ExpectedComment}
use Rattle.json5_grammar.specs.Model.Reading.{Read, here, inner, got, bad}

pub data Mode : Type 0 where
  between : Mode
  slash : Mode
  line : Mode
  block : Mode
  star : Mode

-- blanks: between them, after a comment's first slash, within a comment, after a star in one
unfoldable pub skip : Mode → List ℕ → Read (Unit {0})
skip between [] = got tt []
skip between (c ∷ r) = cond (is_blank c) (skip between r) (cond (c == slash_sign) (skip slash r) (got tt (c ∷ r)))
skip slash [] = bad (Some EofParsingComment) inner
skip slash (c ∷ r) = cond (c == slash_sign) (skip line r) (cond (c == star_sign) (skip block r) (bad (Some ExpectedComment) (here (c ∷ r))))
skip line [] = got tt []
skip line (c ∷ r) = cond (is_terminator c) (skip between r) (skip line r)
skip block [] = bad (Some EofParsingComment) inner
skip block (c ∷ r) = cond (c == star_sign) (skip star r) (skip block r)
skip star [] = bad (Some EofParsingComment) inner
skip star (c ∷ r) = cond (c == slash_sign) (skip between r) (cond (c == star_sign) (skip star r) (skip block r))
