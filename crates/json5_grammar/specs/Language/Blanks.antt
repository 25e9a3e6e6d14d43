-- Blanks: white space and comments, which are allowed around every token.
-- A promise rests on this.
-- JSON5 section 7 (comments) and section 8 (white space).
use Rattle.std.specs.Prelude.{◌≡◌, ◌≢◌, ℕ, Bool, true, not, ◌||◌, ◌==◌, List, [], ◌∷◌, ◌++◌}
use Rattle.json5_grammar.specs.Language.Characters.{is_terminator, is_blank, slash_sign, star_sign, NotBegun, Each}

-- x, where `x*/` holds `*/` at its end only
pub data Inside : List ℕ → Type 0 where
  ends : Inside []
  star : {s : List ℕ} → NotBegun (λ c. c == slash_sign) s → Inside s → Inside (star_sign ∷ s)
  other : {c : ℕ} {s : List ℕ} → c ≢ star_sign → Inside s → Inside (c ∷ s)

-- blank characters, `//` comments with their terminator, and `/* */` comments
pub data Blanks : List ℕ → Type 0 where
  empty : Blanks []
  blank : {c : ℕ} {s : List ℕ} → is_blank c ≡ true → Blanks s → Blanks (c ∷ s)
  line : {x : List ℕ} (c : ℕ) {s : List ℕ} → Each (λ d. not (is_terminator d)) x → is_terminator c ≡ true → Blanks s
      → Blanks (slash_sign ∷ slash_sign ∷ x ++ c ∷ s)
  block : {x s : List ℕ} → Inside x → Blanks s → Blanks (slash_sign ∷ star_sign ∷ x ++ star_sign ∷ slash_sign ∷ s)

-- blanks at the end of the input, the last of which may be a `//` comment that the end closes
pub data LastBlanks : List ℕ → Type 0 where
  blanks : {w : List ℕ} → Blanks w → LastBlanks w
  open_line : {w x : List ℕ} → Blanks w → Each (λ d. not (is_terminator d)) x → LastBlanks (w ++ slash_sign ∷ slash_sign ∷ x)

-- w is blank before r; if r is empty, w may end with an open `//` comment
pub data Gap : List ℕ → List ℕ → Type 0 where
  blanks : {w r : List ℕ} → Blanks w → Gap w r
  at_end : {w : List ℕ} → LastBlanks w → Gap w []

-- c is neither blank nor begins a comment
abbrev pub is_solid : ℕ → Bool
is_solid c = not (is_blank c || (c == slash_sign))

-- r is empty, or begins with a character that is neither blank nor a slash
abbrev pub Solid : List ℕ → Type 0
Solid r = NotBegun (λ c. not (is_solid c)) r
