-- Texts that are JSON but for comments: without these they are in the grammar of RFC 8259.
-- A promise rests on this.
use Rattle.std.specs.Prelude.{◌≡◌, ℕ, Bool, true, List, [], ◌∷◌, ◌++◌}
use Rattle.json5_grammar.specs.Language.Blanks.{Inside}
use Rattle.json5_grammar.specs.Language.Characters.{is_blank, slash_sign, star_sign, comma_sign, NotBegun, Each}
use Rattle.json5_grammar.specs.Language.Strings.{is_quote}
use Rattle.json5_styles.specs.Json.{JsonText}
use Rattle.json5_lexemes.specs.Lexemes.{Quoted}
use Rattle.json5_lexemes.specs.SameLexemes.{is_sign, is_word_part, is_line_part}

-- y is x without its comments, of which there are none where they aren't allowed: the blanks, the commas and the tokens
-- stay as they are. The line terminator after a `//` comment is a blank, and stays too
pub data WithoutComments (comments : Bool) : List ℕ → List ℕ → Type 0 where
  nothing : WithoutComments comments [] []
  blank : {c : ℕ} {x y : List ℕ} → is_blank c ≡ true → WithoutComments comments x y → WithoutComments comments (c ∷ x) (c ∷ y)
  comma : {x y : List ℕ} → WithoutComments comments x y → WithoutComments comments (comma_sign ∷ x) (comma_sign ∷ y)
  sign : {c : ℕ} {x y : List ℕ} → is_sign c ≡ true → WithoutComments comments x y → WithoutComments comments (c ∷ x) (c ∷ y)
  -- a number, a literal or a name, which ends in both
  word : {c : ℕ} {w x y : List ℕ} → Each is_word_part (c ∷ w) → NotBegun is_word_part x → NotBegun is_word_part y → WithoutComments comments x y
      → WithoutComments comments (c ∷ w ++ x) (c ∷ w ++ y)
  string : {q : ℕ} {s x y : List ℕ} → is_quote q ≡ true → Quoted q s → WithoutComments comments x y → WithoutComments comments (q ∷ s ++ x) (q ∷ s ++ y)
  line : {s x y : List ℕ} → comments ≡ true → Each is_line_part s → NotBegun is_line_part x → WithoutComments comments x y → WithoutComments comments (slash_sign ∷ slash_sign ∷ s ++ x) y
  block : {s x y : List ℕ} → comments ≡ true → Inside s → WithoutComments comments x y → WithoutComments comments (slash_sign ∷ star_sign ∷ s ++ star_sign ∷ slash_sign ∷ x) y

-- without its comments the text is one of JSON
pub record IsJsonButForComments (x : List ℕ) : Type 0 where
  pub json : List ℕ
  pub without : WithoutComments true x json
  pub is_json : JsonText json
