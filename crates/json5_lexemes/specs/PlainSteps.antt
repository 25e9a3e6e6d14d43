-- Steps over a text that is asked for JSON's lexemes.
-- A promise rests on this.
use denote.Ref.{Bor}
use Rattle.std.specs.Prelude.{◌≡◌, ◌<◌, ◌⊎◌, ◌↔◌, ◌||◌, ◌==◌, ◌≢◌, ℕ, Bool, true, not, List, [], ◌∷◌, ◌++◌, length, slice_index, Option, MatchOption}
use Rattle.std.specs.Str.{chars}
use Rattle.json5_grammar.specs.Language.Blanks.{Inside}
use Rattle.json5_grammar.specs.Language.Characters.{double_quote, slash_sign, star_sign, plus_sign, minus_sign, point_sign, letter_e, capital_e, letter_f, letter_n, letter_t, letter_u, is_digit, is_hex_digit, is_in, Begun, NotBegun, Each}
use Rattle.json5_grammar.specs.Language.Numbers.{Integer}
use Rattle.json5_tokens.specs.Scan.{SkipsAll, StartsWith}
use Rattle.json5_styles.specs.Json.{Fraction, ExponentSign, Exponent, JsonChars, is_escape_letter, is_json_blank}
use Rattle.json5_lexemes.specs.SameLexemes.{is_word_part, is_line_part}
use Rattle.json5_lexemes.specs.Plain.{JsonWord, Plain}
use Rattle.json5_lexemes.specs.declared.plain.Last.{Last}
use Rattle.json5_lexemes.specs.declared.plain.Last.TheVariants as last

-- what takes x and leaves r leaves exactly the rest; None where nothing takes x
abbrev pub Leaves : (List ℕ → List ℕ → Type 0) → List ℕ → Option (Bor (List ℕ)) → Type 0
Leaves Takes text result = MatchOption result ((r : List ℕ) → Takes (chars text) r → ⊥) (λ rest. (r : List ℕ) → Takes (chars text) r ↔ (r ≡ chars rest.now))

-- the rest of a string and its last quote
abbrev pub TakesString : List ℕ → List ℕ → Type 0
TakesString x r = (s : List ℕ) × JsonChars s × (x ≡ s ++ double_quote ∷ r)

-- the byte is in front
abbrev pub BeginsWith : (byte : ℕ) → List ℕ → Type 0
BeginsWith byte bytes = (0 < length bytes) × (slice_index bytes 0 ≡ byte)

-- the character c was passed; None where it isn't in front
abbrev pub IsPast : (c : ℕ) → List ℕ → Option (Bor (List ℕ)) → Type 0
IsPast c text result = MatchOption result (NotBegun (λ d. d == c) (chars text)) (λ rest. StartsWith text c rest.now)

-- the same of a word
abbrev pub IsPastAll : (word : List ℕ) → List ℕ → Option (Bor (List ℕ)) → Type 0
IsPastAll word text result = MatchOption result ((r : List ℕ) → chars text ≡ word ++ r → ⊥) (λ rest. chars text ≡ word ++ chars rest.now)

abbrev pub AreAscii : (a b c d : ℕ) → Type 0
AreAscii a b c d = (a < 128) × ((b < 128) × ((c < 128) × (d < 128)))

-- a hexadecimal digit
abbrev pub TakesHex : List ℕ → List ℕ → Type 0
TakesHex x r = (c : ℕ) × (is_hex_digit c ≡ true) × (x ≡ c ∷ r)

-- four hexadecimal digits
abbrev pub TakesCode : List ℕ → List ℕ → Type 0
TakesCode x r = (a b c d : ℕ) × Each is_hex_digit (a ∷ b ∷ c ∷ d ∷ []) × (x ≡ a ∷ b ∷ c ∷ d ∷ r)

-- what follows a backslash
pub data TakesEscape (x r : List ℕ) : Type 0 where
  letter : (c : ℕ) → is_escape_letter c ≡ true → x ≡ c ∷ r → TakesEscape x r
  code : (y : List ℕ) → x ≡ letter_u ∷ y → TakesCode y r → TakesEscape x r

-- x is such a part, and r, which goes on no word
abbrev pub Then : (List ℕ → Type 0) → List ℕ → List ℕ → Type 0
Then Part x r = (s : List ℕ) × Part s × NotBegun is_word_part r × (x ≡ s ++ r)

-- a number or a literal
abbrev pub TakesWord : List ℕ → List ℕ → Type 0
TakesWord = Then JsonWord

-- the rest of a `//` comment
abbrev pub TakesLine : List ℕ → List ℕ → Type 0
TakesLine x r = (s : List ℕ) × Each is_line_part s × NotBegun is_line_part r × (x ≡ s ++ r)

abbrev pub is_slash : ℕ → Bool
is_slash c = c == slash_sign

-- the rest of a `/* */` comment
abbrev pub TakesBlock : List ℕ → List ℕ → Type 0
TakesBlock x r = (s : List ℕ) × Inside s × (x ≡ s ++ star_sign ∷ slash_sign ∷ r)

-- a comment after its first slash
abbrev pub TakesComment : List ℕ → List ℕ → Type 0
TakesComment x r = ((y : List ℕ) × (x ≡ slash_sign ∷ y) × TakesLine y r) ⊎ ((y : List ℕ) × (x ≡ star_sign ∷ y) × TakesBlock y r)

-- the same, with what came last
abbrev pub LeavesWith : (List ℕ → List ℕ → Type 0) → Last → List ℕ → Option (Last × Bor (List ℕ)) → Type 0
LeavesWith Takes m text result = MatchOption result ((r : List ℕ) → Takes (chars text) r → ⊥) (λ p. (p.0 ≡ m) × ((r : List ℕ) → Takes (chars text) r ↔ (r ≡ chars p.1.now)))

-- a sign was passed where it may come
abbrev pub PassesSign : (May : Type 0) → List ℕ → Option (Last × Bor (List ℕ)) → Type 0
PassesSign May after result = MatchOption result (May → ⊥) (λ p. May × (p.0 ≡ last.Sign) × (p.1.now ≡ after))

-- a comment was passed where it may come
abbrev pub PassesComment : (comments : Bool) → Last → List ℕ → Option (Last × Bor (List ℕ)) → Type 0
PassesComment comments l after result = MatchOption result (comments ≡ true → (r : List ℕ) → TakesComment (chars after) r → ⊥)
    (λ p. (comments ≡ true) × (p.0 ≡ l) × ((r : List ℕ) → TakesComment (chars after) r ↔ (r ≡ chars p.1.now)))

-- a lexeme is passed where there is one of JSON: what is left is plain exactly where the text is
abbrev pub PassesLexeme : (comments : Bool) → Last → List ℕ → Option (Last × Bor (List ℕ)) → Type 0
PassesLexeme comments l text result = MatchOption result (Plain comments l (chars text) → ⊥)
    (λ p. (Plain comments l (chars text) ↔ Plain comments p.0 (chars p.1.now)) × (length (chars p.1.now) < length (chars text)))

-- whatever the text was, what was passed of it is passed, and maybe more
abbrev pub StaysPassed : (passed result : Option (Last × Bor (List ℕ))) → Type 0
StaysPassed passed result = (comments : Bool) (l : Last) (text : List ℕ) → PassesLexeme comments l text passed → PassesLexeme comments l text result

abbrev pub begins_number : ℕ → Bool
begins_number c = (c == minus_sign) || is_digit c

-- a number that begins the text was passed, and maybe more
abbrev pub PassesNumber : (text : List ℕ) → Option (Last × Bor (List ℕ)) → Type 0
PassesNumber text result = (comments : Bool) (l : Last) (c : ℕ) (after : List ℕ) → chars text ≡ c ∷ chars after → begins_number c ≡ true → PassesLexeme comments l text result

-- ---- numbers

abbrev pub is_exponent_letter : ℕ → Bool
is_exponent_letter c = (c == letter_e) || (c == capital_e)

abbrev pub is_exponent_sign : ℕ → Bool
is_exponent_sign c = (c == plus_sign) || (c == minus_sign)

-- one digit or more
abbrev pub Digits : List ℕ → Type 0
Digits x = (x ≢ []) × Each is_digit x

-- digits, and what may follow them
pub data Unsigned : List ℕ → Type 0 where
  unsigned : {i f e : List ℕ} → Integer i → Fraction f → Exponent e → Unsigned (i ++ (f ++ e))

pub data AfterDigits : List ℕ → Type 0 where
  after_digits : {f e : List ℕ} → Fraction f → Exponent e → AfterDigits (f ++ e)

pub data SignedDigits : List ℕ → Type 0 where
  signed_digits : {s d : List ℕ} → ExponentSign s → Digits d → SignedDigits (s ++ d)

-- after what was passed, the other part is left of this one
abbrev pub GoesOn : (Part Other : List ℕ → Type 0) → (text rest : List ℕ) → Type 0
GoesOn Part Other text rest = (r : List ℕ) → Then Part (chars text) r ↔ Then Other (chars rest) r

-- the same; None where there is no such part
abbrev pub GoesOnIf : (Part Other : List ℕ → Type 0) → (text : List ℕ) → Option (Bor (List ℕ)) → Type 0
GoesOnIf Part Other text result = MatchOption result ((r : List ℕ) → Then Part (chars text) r → ⊥) (λ rest. GoesOn Part Other text rest.now)

abbrev pub IsEmpty : List ℕ → Type 0
IsEmpty x = x ≡ []

-- whatever the text was, what follows its number or literal is left where that ends
abbrev pub EndsWord : (rest : Option (Bor (List ℕ))) → Option (Last × Bor (List ℕ)) → Type 0
EndsWord rest result = (text : List ℕ) → GoesOnIf JsonWord IsEmpty text rest → LeavesWith TakesWord last.Word text result

-- digits were passed, if there are any
abbrev pub PassesDigits : (text : List ℕ) → Option (Bor (List ℕ)) → Type 0
PassesDigits text result = MatchOption result (NotBegun is_digit (chars text)) (λ rest. Begun is_digit (chars text) × SkipsAll is_digit text rest.now)

-- ---- literals

abbrev pub begins_literal : ℕ → Bool
begins_literal c = (c == letter_n) || ((c == letter_t) || (c == letter_f))

-- a character of which JSON's numbers and literals are made
abbrev pub is_json_part : ℕ → Bool
is_json_part c = is_in 97 122 c || (is_digit c || ((c == minus_sign) || ((c == plus_sign) || ((c == point_sign) || is_in 65 90 c))))

-- ---- bytes that end runs

abbrev pub ends_blanks : ℕ → Bool
ends_blanks x = not (is_json_blank x)
