-- Parts: what can be at fault, a begun token with at most one character after it.
-- A promise rests on this.
use Rattle.std.specs.Prelude.{◌≡◌, ℕ, Bool, true, List, [], ◌∷◌, ◌++◌}
use Rattle.json5_grammar.specs.Language.Characters.{star_sign, slash_sign, digit_zero, backslash, is_hex_digit, Each}
use Rattle.json5_grammar.specs.Faults.Codes.{ErrorCode}
use Rattle.json5_grammar.specs.Language.Blanks.{Inside}
use Rattle.json5_grammar.specs.Language.Numbers.{Sign, hex_start}
use Rattle.json5_grammar.specs.Faults.Tokens.{NumberWord, DecimalRun, CutEscape, Word}
use Rattle.json5_grammar.specs.Language.Strings.{Items, is_quote}
use Rattle.json5_grammar.specs.Language.Names.{Ident}

-- p is a prefix of the word
abbrev pub IsPrefix : List ℕ → List ℕ → Type 0
IsPrefix p w = (q : List ℕ) × (w ≡ p ++ q)

-- x is p, with at most one character after it
pub data Nearly : List ℕ → List ℕ → Type 0 where
  just : {p : List ℕ} → Nearly p p
  one_more : {p : List ℕ} (c : ℕ) → Nearly p (p ++ c ∷ [])

pub data NumberPart : List ℕ → Type 0 where
  one_char : {c : ℕ} → NumberPart (c ∷ [])
  number_word : (s p w x : List ℕ) {m : Bool} → Sign s m → NumberWord w → IsPrefix p w → Nearly (s ++ p) x → NumberPart x
  hexadecimal : (s h x : List ℕ) {m : Bool} (c : ℕ) → Sign s m → hex_start c ≡ true → Each is_hex_digit h → Nearly (s ++ digit_zero ∷ c ∷ h) x
      → NumberPart x
  lone_zero_part : (s x : List ℕ) {m : Bool} → Sign s m → Nearly (s ++ digit_zero ∷ []) x → NumberPart x
  decimal_run : (n x : List ℕ) → DecimalRun n → Nearly n x → NumberPart x

pub data Part : List ℕ → Type 0 where
  no_part : Part []
  one : {c : ℕ} → Part (c ∷ [])
  slash : {c : ℕ} → Part (slash_sign ∷ c ∷ [])
  comment : {x : List ℕ} → Inside x → Part (slash_sign ∷ star_sign ∷ x)
  word : (p w x : List ℕ) {bad eof : ErrorCode} → Word w bad eof → IsPrefix p w → Nearly p x → Part x
  number : {x : List ℕ} → NumberPart x → Part x
  an_escape : (e x : List ℕ) {in_string : Bool} → CutEscape in_string e → Nearly e x → Part x
  nul_escape : {x : List ℕ} → Nearly (backslash ∷ digit_zero ∷ []) x → Part x
  in_string : {q : ℕ} {s u r : List ℕ} {escape_free : Bool} → is_quote q ≡ true → Items q r s u escape_free → Part (q ∷ s)
  in_name : {s u : List ℕ} {escape_free : Bool} → Ident s u escape_free → Part s
  in_name_backslash : {s u : List ℕ} {escape_free : Bool} → Ident s u escape_free → Part (s ++ backslash ∷ [])
