-- The faults of each kind of token, from its first character on: the code (None: custom), what comes before the position (None: it is the
-- A promise rests on this.
-- end's), the part at fault, and what shows it.
use Rattle.std.specs.Prelude.{◌≡◌, ◌≢◌, ℕ, Bool, true, false, ◌||◌, ◌==◌, List, [], ◌∷◌, ◌++◌, Option, Some, None, ◌<◌, ◌&&◌, length, ◌^◌, ◌≤◌, ℤ}
use Rattle.json5_grammar.specs.Language.Characters.{slash_sign, star_sign, Each, line_feed, carriage_return, digit_zero, digit_one, digit_nine, backslash, letter_u, letter_x, is_in, is_digit, is_hex_digit, first_high_surrogate, last_low_surrogate, is_identifier_start, is_identifier_part, capital_e, capital_i, capital_n, letter_e, plus_sign, minus_sign, point_sign}
use Rattle.json5_grammar.specs.Faults.Codes.{ErrorCode, ExpectedComment, EofParsingComment, Shown, by_char, by_end, after_text, EofParsingEscapeSequence, EofParsingString, InvalidEscapeSequence, LineTerminatorInString, EofParsingIdentifier, ExpectedIdentifier, EofParsingNumber, ExpectedNumber, LeadingZero, OverflowParsingNumber, EofParsingBool, EofParsingNull, ExpectedBool, ExpectedNull}
use Rattle.json5_grammar.specs.Language.Blanks.{Blanks, Inside}
use Rattle.json5_grammar.specs.Language.Strings.{Hex4, is_high, is_low, Items, is_quote, Unicode}
use Rattle.json5_grammar.specs.Language.Names.{Ident}
use lib.Chars.{codes}
use Rattle.json5_grammar.specs.Language.Numbers.{Number, Sign, spelled, Literal, hex_start, Num, in_run, begins_run}

-- ---- comments

-- x begins with a slash that begins no whole comment: the code, what comes before the position (None: it is the end's), the part, and what shows it
pub data CommentFault : List ℕ → Option ErrorCode → Option (List ℕ) → List ℕ → Shown → Type 0 where
  -- ExpectedComment at a character after the slash that is neither `/` nor `*`
  no_comment : (c : ℕ) (r : List ℕ) → ((c == slash_sign) || (c == star_sign)) ≡ false
      → CommentFault (slash_sign ∷ c ∷ r) (Some ExpectedComment) (Some (slash_sign ∷ [])) (slash_sign ∷ c ∷ []) by_char
  -- EofParsingComment: the input ends after the slash, or within `/*`
  slash_ends : CommentFault (slash_sign ∷ []) (Some EofParsingComment) None (slash_sign ∷ []) by_end
  block_ends : {x : List ℕ} → Inside x → CommentFault (slash_sign ∷ star_sign ∷ x) (Some EofParsingComment) None (slash_sign ∷ star_sign ∷ x) by_end

-- blanks, and then a faulty comment; its position and its part have the blanks before them
pub data BlankFault : List ℕ → Option ErrorCode → Option (List ℕ) → List ℕ → List ℕ → Shown → Type 0 where
  in_comment : {w x part : List ℕ} {code : Option ErrorCode} {place : Option (List ℕ)} {shown : Shown} → Blanks w
      → CommentFault x code place part shown
      → BlankFault (w ++ x) code (after_text w place) w part shown

-- ---- escapes and strings

abbrev pub is_surrogate : ℕ → Bool
is_surrogate n = is_in first_high_surrogate last_low_surrogate n

-- an escape cut within its hexadecimal digits; true in a string
pub data InDigits : Bool → List ℕ → Type 0 where
  in_byte : {d : List ℕ} → Each is_hex_digit d → length d < 2 → InDigits true (backslash ∷ letter_x ∷ d)
  in_first : {d : List ℕ} {in_string : Bool} → Each is_hex_digit d → length d < 4 → InDigits in_string (backslash ∷ letter_u ∷ d)
  in_second : {h d : List ℕ} {n : ℕ} {in_string : Bool} → Hex4 h n → is_surrogate n ≡ true → Each is_hex_digit d → length d < 4
      → InDigits in_string (backslash ∷ letter_u ∷ h ++ backslash ∷ letter_u ∷ d)

-- after a surrogate's escape, up to where `\` or `u` must follow, and which of them
pub data AfterSurrogate : List ℕ → ℕ → Type 0 where
  no_backslash : {h : List ℕ} {n : ℕ} → Hex4 h n → is_surrogate n ≡ true → AfterSurrogate (backslash ∷ letter_u ∷ h) backslash
  no_u : {h : List ℕ} {n : ℕ} → Hex4 h n → is_surrogate n ≡ true → AfterSurrogate (backslash ∷ letter_u ∷ h ++ backslash ∷ []) letter_u

-- an escape that isn't whole
pub data CutEscape : Bool → List ℕ → Type 0 where
  lone_backslash : CutEscape true (backslash ∷ [])
  digits_missing : {e : List ℕ} {in_string : Bool} → InDigits in_string e → CutEscape in_string e
  second_missing : {e : List ℕ} {c : ℕ} {in_string : Bool} → AfterSurrogate e c → CutEscape in_string e

-- x begins with a faulty escape: the code (None: custom), what comes before the position (None: it is the end's), the part, and what shows it
pub data EscapeFault : Bool → List ℕ → Option ErrorCode → Option (List ℕ) → List ℕ → Shown → Type 0 where
  -- InvalidEscapeSequence at the backslash: a digit after `\0`
  digit_after_nul : {c : ℕ} (r : List ℕ) → is_digit c ≡ true
      → EscapeFault true (backslash ∷ digit_zero ∷ c ∷ r) (Some InvalidEscapeSequence) (Some []) (backslash ∷ digit_zero ∷ c ∷ []) by_char
  -- InvalidEscapeSequence at the backslash: `\1` to `\9`
  escaped_digit : {c : ℕ} (r : List ℕ) → is_in digit_one digit_nine c ≡ true
      → EscapeFault true (backslash ∷ c ∷ r) (Some InvalidEscapeSequence) (Some []) (backslash ∷ c ∷ []) by_char
  -- InvalidEscapeSequence at the (first) backslash: no hexadecimal digit within `\x` or `\u`
  no_escape_digit : {e : List ℕ} {in_string : Bool} (c : ℕ) (r : List ℕ) → InDigits in_string e → is_hex_digit c ≡ false
      → EscapeFault in_string (e ++ c ∷ r) (Some InvalidEscapeSequence) (Some []) (e ++ c ∷ []) by_char
  -- InvalidEscapeSequence at the character where a surrogate's second `\u` must follow
  no_second_escape : {e : List ℕ} {wanted : ℕ} {in_string : Bool} (c : ℕ) (r : List ℕ) → AfterSurrogate e wanted → c ≢ wanted
      → EscapeFault in_string (e ++ c ∷ r) (Some InvalidEscapeSequence) (Some e) (e ++ c ∷ []) by_char
  -- custom, at the first backslash: two `\u` escapes that are no pair, the first a surrogate
  unpaired : {h l : List ℕ} {n k : ℕ} {in_string : Bool} (r : List ℕ) → Hex4 h n → Hex4 l k → is_surrogate n ≡ true → (is_high n && is_low k) ≡ false
      → EscapeFault in_string (backslash ∷ letter_u ∷ h ++ backslash ∷ letter_u ∷ l ++ r) None (Some [])
      (backslash ∷ letter_u ∷ h ++ backslash ∷ letter_u ∷ l) by_char
  -- EofParsingEscapeSequence: the input ends in an escape
  escape_ends : {e : List ℕ} {in_string : Bool} → CutEscape in_string e → EscapeFault in_string e (Some EofParsingEscapeSequence) None e by_end

-- x, which begins with a string's quote, has this fault: the code (None: custom), what comes before the position (None: it is the end's),
-- what comes before the faulty part, the part, and what shows it
pub data StringFault : List ℕ → Option ErrorCode → Option (List ℕ) → List ℕ → List ℕ → Shown → Type 0 where
  -- LineTerminatorInString at a raw LF or CR
  raw_terminator : {q c : ℕ} {s u : List ℕ} {escape_free : Bool} (r : List ℕ) → is_quote q ≡ true → Items q (c ∷ r) s u escape_free
      → ((c == line_feed) || (c == carriage_return)) ≡ true
      → StringFault (q ∷ s ++ c ∷ r) (Some LineTerminatorInString) (Some (q ∷ s)) (q ∷ s) (c ∷ []) by_char
  -- EofParsingString: the input ends in a string
  string_ends : {q : ℕ} {s u : List ℕ} {escape_free : Bool} → is_quote q ≡ true → Items q [] s u escape_free
      → StringFault (q ∷ s) (Some EofParsingString) None [] (q ∷ s) by_end
  -- in an escape
  in_string_escape : {q : ℕ} {s u x part : List ℕ} {escape_free : Bool} {code : Option ErrorCode} {place : Option (List ℕ)} {shown : Shown} → is_quote q ≡ true
      → Items q x s u escape_free
      → EscapeFault true x code place part shown
      → StringFault (q ∷ s ++ x) code (after_text (q ∷ s) place) (q ∷ s) part shown

-- ---- identifiers

-- t is a name's items, or none yet
pub data Named : List ℕ → Type 0 where
  no_item_yet : Named []
  some_items : {t u : List ℕ} {escape_free : Bool} → Ident t u escape_free → Named t

-- x, from a name's first character on, has this fault
pub data NameFault : List ℕ → Option ErrorCode → Option (List ℕ) → List ℕ → List ℕ → Shown → Type 0 where
  -- in an escape
  in_name_escape : {t x part : List ℕ} {code : Option ErrorCode} {place : Option (List ℕ)} {shown : Shown} → Named t
      → EscapeFault false x code place part shown
      → NameFault (t ++ x) code (after_text t place) t part shown
  -- InvalidEscapeSequence at the character after a backslash that is no `u`
  no_unicode_escape : {t : List ℕ} (c : ℕ) (r : List ℕ) → Named t → c ≢ letter_u
      → NameFault (t ++ backslash ∷ c ∷ r) (Some InvalidEscapeSequence) (Some (t ++ backslash ∷ [])) t (backslash ∷ c ∷ []) by_char
  -- ExpectedIdentifier at the (first) backslash: an escaped character that may not begin a name
  escaped_no_start : {e : List ℕ} {n : ℕ} (r : List ℕ) → Unicode e n → is_identifier_start n ≡ false
      → NameFault (e ++ r) (Some ExpectedIdentifier) (Some []) [] e by_char
  -- ExpectedIdentifier at the (first) backslash: an escaped character that isn't allowed in a name
  escaped_no_part : {t u e : List ℕ} {n : ℕ} {escape_free : Bool} (r : List ℕ) → Ident t u escape_free → Unicode e n → is_identifier_part n ≡ false
      → NameFault (t ++ (e ++ r)) (Some ExpectedIdentifier) (Some t) t e by_char
  -- EofParsingIdentifier: the input ends in a name
  name_ends : {t u : List ℕ} {escape_free : Bool} → Ident t u escape_free
      → NameFault t (Some EofParsingIdentifier) None [] t by_end
  -- EofParsingIdentifier: the input ends after a backslash in a name
  backslash_ends : {t : List ℕ} → Named t
      → NameFault (t ++ backslash ∷ []) (Some EofParsingIdentifier) None [] (t ++ backslash ∷ []) by_end

-- ---- numbers

abbrev pub is_sign : ℕ → Bool
is_sign c = (c == plus_sign) || (c == minus_sign)

-- after a sign
abbrev pub begins_number : ℕ → Bool
begins_number c = is_digit c || ((c == point_sign) || ((c == capital_i) || (c == capital_n)))

-- p is a prefix of the word, and d the character of the word after it
abbrev pub Cut : List ℕ → List ℕ → ℕ → Type 0
Cut w p d = (q : List ℕ) × (w ≡ p ++ d ∷ q)

pub data NumberWord : List ℕ → Type 0 where
  infinity : NumberWord (codes "Infinity")
  nan : NumberWord (codes "NaN")

-- n is all of a decimal run: a sign, a point or digit, and more; a first `0` begins one only before `. e E`
pub data DecimalRun : List ℕ → Type 0 where
  run : {s n : List ℕ} {m : Bool} {c : ℕ} → Sign s m → begins_run c ≡ true → c ≢ digit_zero → Each in_run n → DecimalRun (s ++ c ∷ n)
  zero_run : {s n : List ℕ} {m : Bool} (c : ℕ) → Sign s m → ((c == point_sign) || ((c == letter_e) || (c == capital_e))) ≡ true → Each in_run n
      → DecimalRun (s ++ digit_zero ∷ c ∷ n)

-- a run whose characters pass the test ends before r: what of r shows it, which is nothing at the end, else the first character
pub data RunEnd (p : ℕ → Bool) : List ℕ → List ℕ → Shown → Type 0 where
  run_at_end : RunEnd p [] [] by_end
  run_at_char : {c : ℕ} (r : List ℕ) → p c ≡ false → RunEnd p (c ∷ r) (c ∷ []) by_char

-- x begins with a faulty number: the code (None: custom), what comes before the position (None: it is the end's), the part from the number's
-- start through what shows the fault, and what shows it
pub data NumberFault : List ℕ → Option ErrorCode → Option (List ℕ) → List ℕ → Shown → Type 0 where
  -- ExpectedNumber at the first character that differs, in `Infinity` or `NaN`
  number_word_differs : (r w p s : List ℕ) {m : Bool} (d c : ℕ) → NumberWord w → Sign s m → Cut w p d → p ≢ [] → c ≢ d
      → NumberFault (s ++ (p ++ c ∷ r)) (Some ExpectedNumber) (Some (s ++ p)) (s ++ (p ++ c ∷ [])) by_char
  -- EofParsingNumber: the input ends in `Infinity` or `NaN`
  number_word_ends : (w p s : List ℕ) {m : Bool} (d : ℕ) → NumberWord w → Sign s m → Cut w p d → p ≢ []
      → NumberFault (s ++ p) (Some EofParsingNumber) None (s ++ p) by_end
  -- ExpectedNumber at the character after a sign that begins no number
  sign_without_number : (r : List ℕ) {sign c : ℕ} → is_sign sign ≡ true → begins_number c ≡ false
      → NumberFault (sign ∷ c ∷ r) (Some ExpectedNumber) (Some (sign ∷ [])) (sign ∷ c ∷ []) by_char
  -- EofParsingNumber: the input ends after a sign
  sign_ends : {sign : ℕ} → is_sign sign ≡ true
      → NumberFault (sign ∷ []) (Some EofParsingNumber) None (sign ∷ []) by_end
  -- ExpectedNumber at the character after `0x` that is no hexadecimal digit
  no_hexadecimal_digit : (r s : List ℕ) {m : Bool} (x c : ℕ) → Sign s m → hex_start x ≡ true → is_hex_digit c ≡ false
      → NumberFault (s ++ digit_zero ∷ x ∷ c ∷ r) (Some ExpectedNumber) (Some (s ++ digit_zero ∷ x ∷ [])) (s ++ digit_zero ∷ x ∷ c ∷ []) by_char
  -- EofParsingNumber: the input ends after `0x`
  hexadecimal_ends : (s : List ℕ) {m : Bool} (x : ℕ) → Sign s m → hex_start x ≡ true
      → NumberFault (s ++ digit_zero ∷ x ∷ []) (Some EofParsingNumber) None (s ++ digit_zero ∷ x ∷ []) by_end
  -- OverflowParsingNumber at the digit that takes a hexadecimal number past 128 bits
  hexadecimal_overflows : (r s h : List ℕ) {m : Bool} (x c : ℕ) → Sign s m → hex_start x ≡ true → Each is_hex_digit h → is_hex_digit c ≡ true
      → spelled 16 0 h < 2 ^ 128
      → 2 ^ 128 ≤ spelled 16 0 (h ++ c ∷ [])
      → NumberFault (s ++ digit_zero ∷ x ∷ (h ++ c ∷ r)) (Some OverflowParsingNumber) (Some (s ++ digit_zero ∷ x ∷ h))
      (s ++ digit_zero ∷ x ∷ (h ++ c ∷ [])) by_char
  -- custom, at the sign: a negative hexadecimal number below -2^127 but within 128 bits
  negative_too_large : (r h c : List ℕ) {shown : Shown} (x : ℕ) → hex_start x ≡ true → Each is_hex_digit h → 2 ^ 127 < spelled 16 0 h
      → spelled 16 0 h < 2 ^ 128
      → RunEnd is_hex_digit r c shown
      → NumberFault (minus_sign ∷ digit_zero ∷ x ∷ (h ++ r)) None (Some []) (minus_sign ∷ digit_zero ∷ x ∷ (h ++ c)) shown
  -- custom, at the number's start: a decimal run that is no literal
  not_a_literal : (r n c : List ℕ) {shown : Shown} → DecimalRun n
      → ((s l i : List ℕ) (m : Bool) (d : Option (List ℕ)) (w : Option ℤ) → Sign s m → Literal l i d w → n ≡ s ++ l → ⊥)
      → RunEnd in_run r c shown
      → NumberFault (n ++ r) None (Some []) (n ++ c) shown
  -- OverflowParsingNumber at the number's start: a literal whose exponent is out of range
  literal_overflows : (r s l i c : List ℕ) {shown : Shown} {m : Bool} {d : Option (List ℕ)} {w : Option ℤ} → DecimalRun (s ++ l) → Sign s m
      → Literal l i d w → ((n : Number) → Num (s ++ l) n → ⊥)
      → RunEnd in_run r c shown
      → NumberFault ((s ++ l) ++ r) (Some OverflowParsingNumber) (Some []) ((s ++ l) ++ c) shown
  -- LeadingZero at the number's start: a digit after a first `0`
  leading_zero : (r s : List ℕ) {m : Bool} (c : ℕ) → Sign s m → is_digit c ≡ true
      → NumberFault (s ++ digit_zero ∷ c ∷ r) (Some LeadingZero) (Some []) (s ++ digit_zero ∷ c ∷ []) by_char

-- ---- the words `null`, `true` and `false`

-- a word and the codes for it: where a character differs, and at the end
pub data Word : List ℕ → ErrorCode → ErrorCode → Type 0 where
  null_word : Word (codes "null") ExpectedNull EofParsingNull
  true_word : Word (codes "true") ExpectedBool EofParsingBool
  false_word : Word (codes "false") ExpectedBool EofParsingBool

-- x begins with a word's first letter, and isn't the word: the first character that differs, or the end, shows it
pub data WordFault : List ℕ → Option ErrorCode → Option (List ℕ) → List ℕ → Shown → Type 0 where
  -- ExpectedNull or ExpectedBool at the character that differs
  word_differs : (r w p : List ℕ) {bad eof : ErrorCode} (d c : ℕ) → Word w bad eof → Cut w p d → p ≢ [] → c ≢ d
      → WordFault (p ++ c ∷ r) (Some bad) (Some p) (p ++ c ∷ []) by_char
  -- EofParsingNull or EofParsingBool: the input ends in the word
  word_ends : (w p : List ℕ) {bad eof : ErrorCode} (d : ℕ) → Word w bad eof → Cut w p d → p ≢ []
      → WordFault p (Some eof) None p by_end
