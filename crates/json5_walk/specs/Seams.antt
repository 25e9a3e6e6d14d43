-- Where a text may be cut between its tokens.
-- A promise rests on this.
use Rattle.std.specs.Prelude.{◌≡◌, ◌||◌, ◌==◌, ℕ, Bool, true, false, List, [], ◌∷◌, ◌++◌}
use Rattle.json5_grammar.specs.Language.Blanks.{Blanks}
use Rattle.json5_grammar.specs.Language.Characters.{comma_sign, colon_sign, left_bracket, right_bracket, left_brace, right_brace}
use Rattle.json5_grammar.specs.Language.Trees.{Tree}
use Rattle.json5_grammar.specs.Language.Values.{Val, KeyText}
use Rattle.json5_walk.specs.Frames.{At, at_value, at_element, at_key, at_colon, at_comma}

-- a bracket, a comma or a colon
abbrev pub is_punctuator : ℕ → Bool
is_punctuator c = (c == left_bracket) || ((c == right_bracket) || ((c == left_brace) || ((c == right_brace) || ((c == comma_sign) || (c == colon_sign)))))

-- blanks and whole tokens, one after another; it may be `unended` where more characters would lengthen the last token, as
-- after a name or a number, and no key or value follows then
pub data WholeTokens : (unended : Bool) → List ℕ → Type 0 where
  no_token : WholeTokens false []
  then_blanks : {unended : Bool} {x w : List ℕ} → WholeTokens unended x → Blanks w → WholeTokens unended (x ++ w)
  then_punctuator : {unended : Bool} {x : List ℕ} (c : ℕ) → WholeTokens unended x → is_punctuator c ≡ true → WholeTokens false (x ++ c ∷ [])
  then_key : {x k u : List ℕ} {escape_free : Bool} → WholeTokens false x → KeyText k u escape_free → WholeTokens true (x ++ k)
  then_value : {x s : List ℕ} {t : Tree} → WholeTokens false x → Val s t → WholeTokens true (x ++ s)
  as_unended : {x : List ℕ} → WholeTokens false x → WholeTokens true x

-- after a value or a key, which more characters may lengthen
abbrev pub is_unended : At → Bool
is_unended (at_value o) = false
is_unended (at_element ts o) = false
is_unended (at_key ps o) = false
is_unended (at_colon ps u escape_free o) = true
is_unended (at_comma t o) = true
