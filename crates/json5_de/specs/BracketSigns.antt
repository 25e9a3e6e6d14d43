-- What the brackets of a kind are not.
-- Private.
use Rattle.std.specs.Prelude.{◌≡◌, ◌≢◌, true, false, ◌==◌}
use Rattle.json5_grammar.specs.declared.error_code.ErrorCode.TheVariants as codes
use Rattle.json5_grammar.specs.Language.Characters.{comma_sign}
use Rattle.json5_grammar.specs.Language.Blanks.{is_solid}
use Rattle.json5_read.specs.declared.brackets.BracketPair.{BracketPair}

-- no blank begins with one of them, the closing one is no comma, and no code is that the reader had failed
pub record AreSigns (b : BracketPair) : Type 0 where
  pub opening : is_solid b.opening ≡ true
  pub closing : is_solid b.closing ≡ true
  pub no_comma : (comma_sign == b.closing) ≡ false
  pub other_ends : b.ends ≢ codes.Failed
  pub other_not_opened : b.not_opened ≢ codes.Failed
  pub other_not_closed : b.not_closed ≢ codes.Failed
