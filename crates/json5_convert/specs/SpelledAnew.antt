-- Two texts that have the same tokens, each spelled alike or anew, and the same comments, or none in the second.
-- Private.
use Rattle.std.specs.Prelude.{◌≡◌, ◌<◌, ◌+◌, ◌||◌, ◌==◌, ℕ, Bool, true, false, List, [], ◌∷◌, ◌++◌, length}
use Rattle.std.specs.Str.{all_scalars, chars}
use Rattle.json5_grammar.specs.Language.Blanks.{Inside}
use Rattle.json5_grammar.specs.Language.Characters.{is_blank, is_digit, comma_sign, colon_sign, slash_sign, star_sign, NotBegun, Each}
use Rattle.json5_grammar.specs.Language.Names.{Key}
use Rattle.json5_grammar.specs.Language.Numbers.{Num}
use Rattle.json5_grammar.specs.Language.Strings.{Str, is_quote}
use Rattle.json5_grammar.specs.Language.Trees.{Tree}
use Rattle.json5_grammar.specs.Language.Values.{KeyText}
use Rattle.json5_types.specs.declared.cow_str.CowStr.{CowStr}
use Rattle.json5_types.specs.declared.number.Number.{Number}
use Rattle.json5_types.specs.Cows.{cow_bytes}
use Rattle.json5_types.specs.NumberMeanings.{number_of}
use Rattle.json5_read.specs.TreeMeanings.{datum_of}
use Rattle.json5_tokens.specs.Scan.{StartsWith}
use Rattle.json5_lexemes.specs.Lexemes.{Quoted}
use Rattle.json5_lexemes.specs.Runs.{is_text_byte}
use Rattle.json5_lexemes.specs.SameLexemes.{is_sign, is_word_part, is_line_part}
use Rattle.json5_lexemes.specs.Tokens.{Scalar}

-- s is a token before r: a number, a literal or a name, as long as it can be, or a string
pub data TokenBefore (r : List ℕ) : (s : List ℕ) → Type 0 where
  word : {c : ℕ} {s : List ℕ} → Each is_word_part (c ∷ s) → NotBegun is_word_part r → TokenBefore r (c ∷ s)
  string : {q : ℕ} {s : List ℕ} → is_quote q ≡ true → Quoted q s → TokenBefore r (q ∷ s)

-- as a key both have the same text
abbrev pub SameKeys : List ℕ → List ℕ → Type 0
SameKeys s t = (u v : List ℕ) (e f : Bool) → KeyText s u e → KeyText t v f → u ≡ v

-- as a value both mean the same
abbrev pub SameScalars : List ℕ → List ℕ → Type 0
SameScalars s t = (a b : Tree) → Scalar s a → Scalar t b → datum_of a ≡ datum_of b

-- x and y have the same tokens, and blanks, commas and comments between them. Where comments `stay` y has those of x, else
-- none. Where a colon is due, a key comes first
pub data SpelledAnew (stay : Bool) : (colon_due : Bool) → (x y : List ℕ) → Type 0 where
  ends : SpelledAnew stay false [] []
  left_blank : {due : Bool} {c : ℕ} {x y : List ℕ} → is_blank c ≡ true → SpelledAnew stay due x y → SpelledAnew stay due (c ∷ x) y
  right_blank : {due : Bool} {c : ℕ} {x y : List ℕ} → is_blank c ≡ true → SpelledAnew stay due x y → SpelledAnew stay due x (c ∷ y)
  left_comma : {x y : List ℕ} → SpelledAnew stay false x y → SpelledAnew stay false (comma_sign ∷ x) y
  right_comma : {x y : List ℕ} → SpelledAnew stay false x y → SpelledAnew stay false x (comma_sign ∷ y)
  sign : {c : ℕ} {x y : List ℕ} → is_sign c ≡ true → SpelledAnew stay false x y → SpelledAnew stay false (c ∷ x) (c ∷ y)
  value : {s t x y : List ℕ} → TokenBefore x s → TokenBefore y t → SameScalars s t → SameKeys s t → SpelledAnew stay false x y → SpelledAnew stay false (s ++ x) (t ++ y)
  key : {s t x y : List ℕ} → TokenBefore x s → TokenBefore y t → SameKeys s t → SpelledAnew stay true x y → SpelledAnew stay false (s ++ x) (t ++ y)
  colon : {x y : List ℕ} → SpelledAnew stay false x y → SpelledAnew stay true (colon_sign ∷ x) (colon_sign ∷ y)
  line : {due : Bool} {s x y : List ℕ} → stay ≡ true → Each is_line_part s → NotBegun is_line_part x → NotBegun is_line_part y → SpelledAnew stay due x y
      → SpelledAnew stay due (slash_sign ∷ slash_sign ∷ s ++ x) (slash_sign ∷ slash_sign ∷ s ++ y)
  block : {due : Bool} {s x y : List ℕ} → stay ≡ true → Inside s → SpelledAnew stay due x y
      → SpelledAnew stay due (slash_sign ∷ star_sign ∷ s ++ star_sign ∷ slash_sign ∷ x) (slash_sign ∷ star_sign ∷ s ++ star_sign ∷ slash_sign ∷ y)
  line_goes : {due : Bool} {s x y : List ℕ} → stay ≡ false → Each is_line_part s → NotBegun is_line_part x → SpelledAnew stay due x y → SpelledAnew stay due (slash_sign ∷ slash_sign ∷ s ++ x) y
  block_goes : {due : Bool} {s x y : List ℕ} → stay ≡ false → Inside s → SpelledAnew stay due x y → SpelledAnew stay due (slash_sign ∷ star_sign ∷ s ++ star_sign ∷ slash_sign ∷ x) y

-- ---- steps over both texts, in bytes

abbrev pub left_of : List ℕ → List ℕ → ℕ
left_of left right = length (chars left) + length (chars right)

-- what was passed is the same in both; after it no colon is due
pub record PassesOn (stay due : Bool) (left right after after_right : List ℕ) : Type 0 where
  pub same : SpelledAnew stay false (chars after) (chars after_right) → SpelledAnew stay due (chars left) (chars right)
  pub fewer : left_of after after_right < left_of left right

-- the same where no comment was passed, and no colon was due
abbrev pub PassesShort : (left right after after_right : List ℕ) → Type 0
PassesShort left right after after_right = (stay : Bool) → PassesOn stay false left right after after_right

-- a token was passed that each text has, spelled anew; after a key a colon is due
pub record PassesAnew (colon_due : Bool) (left right after after_right : List ℕ) : Type 0 where
  pub same : (stay : Bool) → SpelledAnew stay colon_due (chars after) (chars after_right) → SpelledAnew stay false (chars left) (chars right)
  pub fewer : left_of after after_right < left_of left right

-- a comma of one text was passed
pub data PassesComma (left right : List ℕ) : (after after_right : List ℕ) → Type 0 where
  in_first : {after : List ℕ} → StartsWith left comma_sign after → PassesComma left right after right
  in_second : {after : List ℕ} → StartsWith right comma_sign after → PassesComma left right left after

-- a blank or a comment was passed
pub record PassesGap (stay : Bool) (left right after after_right : List ℕ) : Type 0 where
  pub same : (due : Bool) → SpelledAnew stay due (chars after) (chars after_right) → SpelledAnew stay due (chars left) (chars right)
  pub fewer : left_of after after_right < left_of left right

-- the first text begins with a key in quotes, the second with the same name without, and a colon follows
pub record Unquotes (quoted bare after after_bare : List ℕ) : Type 0 where
  pub quote : ℕ
  pub first : ℕ
  pub rest : List ℕ
  pub is_quote : is_quote quote ≡ true
  pub parts : Each is_word_part (first ∷ rest)
  pub plain : Each is_text_byte (first ∷ rest)
  pub in_quoted : chars quoted ≡ (quote ∷ (first ∷ rest) ++ quote ∷ []) ++ colon_sign ∷ chars after
  pub in_bare : chars bare ≡ (first ∷ rest) ++ colon_sign ∷ chars after_bare

-- x is a blank and then r
pub record IsBlankBefore (x r : List ℕ) : Type 0 where
  pub blank : ℕ
  pub is_blank : is_blank blank ≡ true
  pub split : x ≡ blank ∷ r

-- x is this comment and then r
pub data IsComment : (comment x r : List ℕ) → Type 0 where
  line : {s r : List ℕ} → Each is_line_part s → NotBegun is_line_part r → IsComment (slash_sign ∷ slash_sign ∷ s) (slash_sign ∷ slash_sign ∷ s ++ r) r
  block : {s r : List ℕ} → Inside s → IsComment (slash_sign ∷ star_sign ∷ s ++ star_sign ∷ slash_sign ∷ []) (slash_sign ∷ star_sign ∷ s ++ star_sign ∷ slash_sign ∷ r) r

-- if this is a comment, x is it and then r
abbrev pub Repeats : (comment x r : List ℕ) → Type 0
Repeats comment x r = (y t : List ℕ) → IsComment comment y t → IsComment comment x r

-- x begins with a comment, and r follows it
abbrev pub BeginsComment : (x r : List ℕ) → Type 0
BeginsComment x r = (comment : List ℕ) × (x ≡ comment ++ r) × IsComment comment x r

-- a sign, a point or a digit is in front
abbrev pub begins_number : ℕ → Bool
begins_number c = (c == 43) || ((c == 45) || ((c == 46) || is_digit c))

pub record BeginsNumber (x : List ℕ) : Type 0 where
  pub first : ℕ
  pub rest : List ℕ
  pub split : x ≡ first ∷ rest
  pub begins : begins_number first ≡ true

-- x is a string of this text and then r
pub record IsStringAt (x : List ℕ) (t : CowStr) (r : List ℕ) : Type 0 where
  pub spelled : List ℕ
  pub text_of : List ℕ
  pub escape_free : Bool
  pub split : x ≡ spelled ++ r
  pub string : Str spelled text_of escape_free
  pub is_text : text_of ≡ chars (cow_bytes t)
  pub ended : NotBegun is_word_part r

-- x is this number and then r
pub record IsNumberAt (x : List ℕ) (n : Number) (r : List ℕ) : Type 0 where
  pub spelled : List ℕ
  pub split : x ≡ spelled ++ r
  pub number : Num spelled (number_of n)
  pub ended : NotBegun is_word_part r

-- both texts begin with this number
abbrev pub PassesNumbers : (left right after after_right : List ℕ) → Type 0
PassesNumbers left right after after_right = (n m : Number) × (number_of m ≡ number_of n) × IsNumberAt (chars left) n (chars after) × IsNumberAt (chars right) m (chars after_right)

-- x is a key of this text and then r
pub record IsKeyAt (x : List ℕ) (t : CowStr) (r : List ℕ) : Type 0 where
  pub spelled : List ℕ
  pub text_of : List ℕ
  pub escape_free : Bool
  pub split : x ≡ spelled ++ r
  pub key : KeyText spelled text_of escape_free
  pub is_text : text_of ≡ chars (cow_bytes t)
  pub ended : NotBegun is_word_part r
