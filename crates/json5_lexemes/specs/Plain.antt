-- Texts whose lexemes are those of JSON (RFC 8259), and comments.
-- A promise rests on this.
use Rattle.std.specs.Prelude.{◌≡◌, ◌≢◌, ◌||◌, ◌==◌, ℕ, Bool, true, false, List, [], ◌∷◌, ◌++◌}
use Rattle.std.specs.Str.{chars}
use Rattle.json5_grammar.specs.Language.Blanks.{Inside}
use Rattle.json5_grammar.specs.Language.Characters.{comma_sign, colon_sign, slash_sign, star_sign, left_bracket, right_bracket, left_brace, right_brace, NotBegun, Each}
use Rattle.json5_grammar.specs.Language.Values.{null_text, true_text, false_text}
use Rattle.json5_styles.specs.Json.{is_json_blank, JsonNumber, JsonString}
use Rattle.json5_lexemes.specs.SameLexemes.{is_word_part, is_line_part}
use Rattle.json5_lexemes.specs.declared.plain.Last.{Last}
use Rattle.json5_lexemes.specs.declared.plain.Last.TheVariants as last

-- a number or a literal
pub data JsonWord : List ℕ → Type 0 where
  is_null : JsonWord null_text
  is_true : JsonWord true_text
  is_false : JsonWord false_text
  is_number : {s : List ℕ} → JsonNumber s → JsonWord s

abbrev pub is_opening : ℕ → Bool
is_opening c = (c == left_bracket) || (c == left_brace)

abbrev pub is_closing : ℕ → Bool
is_closing c = (c == right_bracket) || (c == right_brace)

-- each lexeme is one of JSON, or a comment where those are allowed; no comma is last, and a colon follows a string alone. Whether
-- brackets pair, and where entries and commas stand, is for a document to say
pub data Plain (comments : Bool) : Last → List ℕ → Type 0 where
  ends : {l : Last} → Plain comments l []
  blank : {l : Last} {c : ℕ} {r : List ℕ} → is_json_blank c ≡ true → Plain comments l r → Plain comments l (c ∷ r)
  line : {l : Last} {x r : List ℕ} → comments ≡ true → Each is_line_part x → NotBegun is_line_part r → Plain comments l r → Plain comments l (slash_sign ∷ slash_sign ∷ x ++ r)
  block : {l : Last} {x r : List ℕ} → comments ≡ true → Inside x → Plain comments l r → Plain comments l (slash_sign ∷ star_sign ∷ x ++ star_sign ∷ slash_sign ∷ r)
  opens : {l : Last} {c : ℕ} {r : List ℕ} → is_opening c ≡ true → Plain comments last.Sign r → Plain comments l (c ∷ r)
  closes : {l : Last} {c : ℕ} {r : List ℕ} → l ≢ last.Comma → is_closing c ≡ true → Plain comments last.Sign r → Plain comments l (c ∷ r)
  comma : {l : Last} {r : List ℕ} → Plain comments last.Comma r → Plain comments l (comma_sign ∷ r)
  colon : {r : List ℕ} → Plain comments last.Sign r → Plain comments last.Text (colon_sign ∷ r)
  word : {l : Last} {s r : List ℕ} → JsonWord s → NotBegun is_word_part r → Plain comments last.Word r → Plain comments l (s ++ r)
  string : {l : Last} {s r : List ℕ} → JsonString s → Plain comments last.Text r → Plain comments l (s ++ r)

-- JSON but for comments, by its lexemes
abbrev pub IsPlain : List ℕ → Type 0
IsPlain x = Plain true last.Sign x

-- JSON without comments, by its lexemes
abbrev pub IsBare : List ℕ → Type 0
IsBare x = Plain false last.Sign x

-- the same of a text in bytes, with comments or without
abbrev pub PlainText : (comments : Bool) → List ℕ → Type 0
PlainText comments text = Plain comments last.Sign (chars text)

-- made is as plain as text: JSON but for comments, and JSON without them
abbrev pub KeepsPlain : (text made : List ℕ) → Type 0
KeepsPlain text made = (comments : Bool) → PlainText comments text → PlainText comments made

-- made is as plain as text, where value is so too
abbrev pub StaysPlain : (text value made : List ℕ) → Type 0
StaysPlain text value made = (comments : Bool) → PlainText comments text → PlainText comments value → PlainText comments made
