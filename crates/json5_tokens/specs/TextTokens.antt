-- What contracts see of the token of a string or a key.
-- A promise rests on this.
use Rattle.std.specs.Prelude.{◌≡◌, ℕ, ◌+◌, Bool, true, false, List, ◌++◌, length, string_bytes}
use Rattle.std.specs.Str.{encode_utf8_all}
use Rattle.json5_types.specs.declared.cow_str.CowStr.{CowStr}
use Rattle.json5_tokens.specs.declared.text_token.TextToken.{TextToken}
use Rattle.json5_tokens.specs.declared.text_token.TextToken.TheVariants as token
use Rattle.json5_types.specs.Cows.{cow_bytes, is_borrowed}

-- u is the part of the input between these offsets
pub record IsSliceAt (input u : List ℕ) (start end : ℕ) : Type 0 where
  pub before : List ℕ
  pub rest : List ℕ
  pub split : input ≡ before ++ (u ++ rest)
  pub starts : start ≡ length (encode_utf8_all before)
  pub ends : end ≡ start + length (encode_utf8_all u)

-- the token spells u: by a part of the input if it is escape-free, else by an owned copy
abbrev pub Spells : List ℕ → List ℕ → Bool → TextToken → Type 0
Spells input u escape_free (token.EscapeFree span) = (escape_free ≡ true) × IsSliceAt input u span.start span.end
Spells input u escape_free (token.Escaped text) = (escape_free ≡ false) × (string_bytes text ≡ encode_utf8_all u)

-- these are the bytes of the text that the token spells
abbrev pub IsTextOf : List ℕ → TextToken → List ℕ → Type 0
IsTextOf input t bytes = (u : List ℕ) (escape_free : Bool) → Spells input u escape_free t → bytes ≡ encode_utf8_all u

-- the same, borrowed if it is escape-free
abbrev pub IsCowOf : List ℕ → TextToken → CowStr → Type 0
IsCowOf input t text = (u : List ℕ) (escape_free : Bool) → Spells input u escape_free t → (is_borrowed text ≡ escape_free) × (cow_bytes text ≡ encode_utf8_all u)
