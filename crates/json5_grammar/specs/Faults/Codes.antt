-- The codes of faults, and what shows a fault.
-- A promise rests on this.
use Rattle.std.specs.Prelude.{ℕ, List, ◌++◌, Option, Some, None}
pub use Rattle.json5_grammar.specs.declared.error_code.ErrorCode.{ErrorCode}
pub use Rattle.json5_grammar.specs.declared.error_code.ErrorCode.TheVariants.{EofParsingArray, EofParsingBool, EofParsingComment, EofParsingEscapeSequence, EofParsingIdentifier, EofParsingNull, EofParsingNumber, EofParsingObject, EofParsingString, EofParsingValue, ExpectedBool, ExpectedColon, ExpectedComma, ExpectedComment, ExpectedIdentifier, ExpectedNull, ExpectedNumber, ExpectedValue, InvalidEscapeSequence, LeadingZero, LineTerminatorInString, OverflowParsingNumber, TrailingCharacters, TooDeep}

-- what shows a fault: the last character of the faulty part, or the end of the input
pub data Shown : Type 0 where
  by_char : Shown
  by_end : Shown

-- A position in what follows t, as a position in the whole: what comes before it, or None for the end.
abbrev pub after_text : List ℕ → Option (List ℕ) → Option (List ℕ)
after_text t None = None
after_text t (Some p) = Some (t ++ p)
