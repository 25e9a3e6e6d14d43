-- What the short way past words promises: the word is taken, or nothing is.
-- A promise rests on this.
use Rattle.std.specs.Prelude.{◌≡◌, ℕ, Bool, true, false, List, ◌++◌}
use Rattle.std.specs.Str.{IsUtf8, chars}
use Rattle.json5_tokens.specs.Cursor.{Cursor, Took}

-- this follows the word in front
pub record FollowsWord (word text rest : List ℕ) : Type 0 where
  pub split : chars text ≡ chars word ++ chars rest
  pub text_rest : IsUtf8 rest

-- the word is taken, or nothing
abbrev pub TakesShortWord : List ℕ → Cursor → Cursor → Bool → Type 0
TakesShortWord word old new true = Took old word new
TakesShortWord word old new false = new ≡ old
