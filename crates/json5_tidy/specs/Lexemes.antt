-- Where a lexeme is.
-- Private.
use Rattle.std.specs.Prelude.{◌≡◌, ◌+◌, ◌-◌, ◌≤◌, ◌<◌, ℕ, min, max, Bool, true, false, List, length}
use Rattle.json5_tidy.specs.declared.layout.lexemes.Kind.{Kind}
use Rattle.json5_tidy.specs.declared.layout.lexemes.Kind.TheVariants as kind
use Rattle.json5_tidy.specs.declared.layout.lexemes.Lexeme.{Lexeme}

abbrev pub is_end_kind : Kind → Bool
is_end_kind kind.End = true
is_end_kind _ = false

abbrev pub is_end : Lexeme → Bool
is_end x = is_end_kind x.kind

-- the lexeme is from the offset on, and unless it is the end, within the text
pub record IsLexeme (bytes : List ℕ) (at : ℕ) (x : Lexeme) : Type 0 where
  pub from : at ≤ x.start
  pub progress : is_end x ≡ false → x.start < x.end
  pub within : is_end x ≡ false → x.end ≤ length bytes

-- from an offset within the text on, it ends after that, within the text
abbrev pub EndsWithin : (bytes : List ℕ) (at end : ℕ) → Type 0
EndsWithin bytes at end = (min (at + 1) (length bytes) ≤ end) × (end ≤ max at (length bytes))

-- so many bytes are in the text from the offset on
abbrev pub FitsAt : (bytes : List ℕ) (at count : ℕ) → Type 0
FitsAt bytes at count = count ≤ length bytes - at

-- the offset isn't before the other one, and within the text if that is
abbrev pub IsFurther : (bytes : List ℕ) (from end : ℕ) → Type 0
IsFurther bytes from end = (from ≤ end) × (end ≤ max from (length bytes))

-- the next line, which isn't before the offset, and what follows the blanks in front of it
pub record IsNextLine (bytes : List ℕ) (from line solid : ℕ) : Type 0 where
  pub forward : from ≤ line
  pub blank : line ≤ solid
  pub progress : solid < length bytes → from < solid
