-- What the short ways of escapes promise. Private clauses and proofs alone cite it.
-- Private.
use Rattle.std.specs.Prelude.{◌≡◌, ℕ, Bool, not, ◌&&◌, ◌==◌, nat_lt, List, [], ◌∷◌}
use Rattle.std.specs.Str.{IsUtf8, chars}
use Rattle.json5_grammar.specs.Language.Characters.{backslash, is_digit}
use Rattle.json5_grammar.specs.Language.Strings.{short_escape}
use Rattle.json5_grammar.specs.Model.Reading.{got}
use Rattle.json5_grammar.specs.Model.ReadTexts.{unicode_at, not_short, escape_at}
use Rattle.json5_tokens.specs.TokenResults.{GivesValue}

-- an ASCII character whose escape is the character alone and spells it, unless it is a short escape
abbrev pub spells_itself : ℕ → Bool
spells_itself c = nat_lt c 128 && (not (is_digit c) && (not (c == 120) && (not (c == 117) && (not (c == 13) && not (c == 10)))))

-- an escape of c alone spells d
abbrev pub SpellsAlone : ℕ → ℕ → Type 0
SpellsAlone c d = (b r : List ℕ) → not_short (short_escape c) b c r ≡ got (d ∷ []) r

-- after `\u` digits are in front that spell c, and the rest follows them
abbrev pub SpellsUnicode : List ℕ → ℕ → List ℕ → Type 0
SpellsUnicode digits c rest = (b : List ℕ) → GivesValue (unicode_at b (chars digits)) c rest

-- a string's escape is in front that spells c, and the rest follows it
pub record SpellsEscape (whole : List ℕ) (c : ℕ) (rest : List ℕ) : Type 0 where
  pub after : List ℕ
  pub begins : chars whole ≡ backslash ∷ after
  pub read : escape_at (chars whole) after ≡ got (c ∷ []) (chars rest)
  pub text : IsUtf8 rest
