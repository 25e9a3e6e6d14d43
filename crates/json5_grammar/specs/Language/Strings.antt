-- String literals and their escapes, with the characters that they mean; escape-free if they hold no backslash.
-- A promise rests on this.
-- JSON5 section 5 (strings), ECMAScript 5.1 section 7.8.4.
use Rattle.std.specs.Prelude.{◌≡◌, ◌≢◌, ℕ, ◌+◌, ◌-◌, ◌*◌, Bool, true, false, if◌then◌else◌, ◌||◌, not, ◌==◌, List, [], ◌∷◌, ◌++◌, Option, Some, None}
use Rattle.std.specs.Char.{digit_value}
use Rattle.std.specs.List.{list_any}
use Rattle.json5_grammar.specs.Language.Characters.{line_feed, carriage_return, double_quote, single_quote, digit_zero, backslash, letter_u, letter_x, is_in, is_terminator, is_digit, is_hex_digit, NotBegun, Each, backspace, tab, vertical_tab, form_feed, letter_b, letter_f, letter_n, letter_r, letter_t, letter_v, first_high_surrogate, last_high_surrogate, first_low_surrogate, last_low_surrogate}

-- `\b \t \n \v \f \r`
abbrev pub short_escape : ℕ → Option ℕ
short_escape c = if c == letter_b then Some backspace else if c == letter_t then Some tab else if c == letter_n then Some line_feed else if c == letter_v then Some vertical_tab else if c == letter_f then Some form_feed else if c == letter_r then Some carriage_return else None

-- no short escape, digit, `x`, `u` or terminator
abbrev pub stands_for_itself : ℕ → Bool
stands_for_itself c = not ((c == letter_b) || ((c == letter_t) || ((c == letter_n) || ((c == letter_v) || ((c == letter_f) || ((c == letter_r) || ((c == letter_x) || ((c == letter_u) || (is_digit c || is_terminator c)))))))))

-- four hexadecimal digits and their value
pub data Hex4 : List ℕ → ℕ → Type 0 where
  hex4 : {a b c d : ℕ} → Each is_hex_digit (a ∷ b ∷ c ∷ d ∷ []) → Hex4 (a ∷ b ∷ c ∷ d ∷ []) (((digit_value a * 16 + digit_value b) * 16 + digit_value c) * 16 + digit_value d)

abbrev pub is_high : ℕ → Bool
is_high n = is_in first_high_surrogate last_high_surrogate n

abbrev pub is_low : ℕ → Bool
is_low n = is_in first_low_surrogate last_low_surrogate n

abbrev pub pair_value : ℕ → ℕ → ℕ
pair_value high low = 0x1_0000 + (high - first_high_surrogate) * 0x400 + (low - first_low_surrogate)

-- a `\u` escape, or two that form a pair, and its character
pub data Unicode : List ℕ → ℕ → Type 0 where
  single : {h : List ℕ} {n : ℕ} → Hex4 h n → is_in first_high_surrogate last_low_surrogate n ≡ false → Unicode (backslash ∷ letter_u ∷ h) n
  surrogates : {h l : List ℕ} {n k : ℕ} → Hex4 h n → Hex4 l k → is_high n ≡ true → is_low k ≡ true → Unicode (backslash ∷ letter_u ∷ h ++ backslash ∷ letter_u ∷ l) (pair_value n k)

-- an escape, the characters that it means, and what follows it
pub data Escape : List ℕ → List ℕ → List ℕ → Type 0 where
  short : {c d : ℕ} {r : List ℕ} → short_escape c ≡ Some d → Escape (backslash ∷ c ∷ []) (d ∷ []) r
  nul : {r : List ℕ} → NotBegun is_digit r → Escape (backslash ∷ digit_zero ∷ []) (0 ∷ []) r
  byte : {a b : ℕ} {r : List ℕ} → Each is_hex_digit (a ∷ b ∷ []) → Escape (backslash ∷ letter_x ∷ a ∷ b ∷ []) ((digit_value a * 16 + digit_value b) ∷ []) r
  unicode : {e r : List ℕ} {n : ℕ} → Unicode e n → Escape e (n ∷ []) r
  line_end : {c : ℕ} {r : List ℕ} → is_terminator c ≡ true → c ≢ carriage_return → Escape (backslash ∷ c ∷ []) [] r
  cr_lf : {r : List ℕ} → Escape (backslash ∷ carriage_return ∷ line_feed ∷ []) [] r
  lone_cr : {r : List ℕ} → NotBegun (λ c. c == line_feed) r → Escape (backslash ∷ carriage_return ∷ []) [] r
  itself : {c : ℕ} {r : List ℕ} → stands_for_itself c ≡ true → Escape (backslash ∷ c ∷ []) (c ∷ []) r

-- a character that stands for itself between the quotes q
abbrev pub is_raw : ℕ → ℕ → Bool
is_raw q c = not ((c == q) || ((c == backslash) || ((c == line_feed) || (c == carriage_return))))

-- the items of a string in the quotes q, before r
pub data Items (q : ℕ) (r : List ℕ) : List ℕ → List ℕ → Bool → Type 0 where
  no_item : Items q r [] [] true
  raw : {c : ℕ} {s u : List ℕ} {escape_free : Bool} → is_raw q c ≡ true → Items q r s u escape_free → Items q r (c ∷ s) (c ∷ u) escape_free
  escape : {e v s u : List ℕ} {escape_free : Bool} → Escape e v (s ++ r) → Items q r s u escape_free → Items q r (e ++ s) (v ++ u) false

abbrev pub is_quote : ℕ → Bool
is_quote q = (q == double_quote) || (q == single_quote)

pub data Str : List ℕ → List ℕ → Bool → Type 0 where
  quoted : {q : ℕ} {s u : List ℕ} {escape_free : Bool} → is_quote q ≡ true → Items q (q ∷ []) s u escape_free → Str (q ∷ s ++ q ∷ []) u escape_free

-- s holds a backslash
abbrev pub holds_backslash : List ℕ → Bool
holds_backslash s = list_any (λ c. c == backslash) s

-- the spelling of a string without its last quote
abbrev pub IsOpenString : List ℕ → Type 0
IsOpenString s = (q : ℕ) × (u : List ℕ) × (escape_free : Bool) × Str (s ++ q ∷ []) u escape_free
