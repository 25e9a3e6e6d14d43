-- What each code prints.
-- A promise rests on this.
use Rattle.std.specs.Prelude.{ℕ, List}
use lib.Chars.{codes}
use Rattle.json5_grammar.specs.declared.error_code.ErrorCode.{ErrorCode}
use Rattle.json5_grammar.specs.declared.error_code.ErrorCode.TheVariants as code

abbrev pub code_text : ErrorCode → List ℕ
code_text code.EofParsingArray = codes "EOF parsing array"
code_text code.EofParsingBool = codes "EOF parsing bool"
code_text code.EofParsingComment = codes "EOF parsing comment"
code_text code.EofParsingEscapeSequence = codes "EOF parsing escape sequence"
code_text code.EofParsingIdentifier = codes "EOF parsing identifier"
code_text code.EofParsingNull = codes "EOF parsing null"
code_text code.EofParsingNumber = codes "EOF parsing number"
code_text code.EofParsingObject = codes "EOF parsing object"
code_text code.EofParsingString = codes "EOF parsing string"
code_text code.EofParsingValue = codes "EOF parsing value"
code_text code.ExpectedBool = codes "expected bool"
code_text code.ExpectedClosingBrace = codes "expected closing brace"
code_text code.ExpectedClosingBracket = codes "expected closing bracket"
code_text code.ExpectedColon = codes "expected colon"
code_text code.ExpectedComma = codes "expected comma"
code_text code.ExpectedComment = codes "expected comment"
code_text code.ExpectedIdentifier = codes "expected identifier"
code_text code.ExpectedNull = codes "expected null"
code_text code.ExpectedNumber = codes "expected number"
code_text code.ExpectedOpeningBrace = codes "expected opening brace"
code_text code.ExpectedOpeningBracket = codes "expected opening bracket"
code_text code.ExpectedString = codes "expected string"
code_text code.ExpectedStringOrObject = codes "expected string or object"
code_text code.ExpectedValue = codes "expected value"
code_text code.InvalidBytes = codes "invalid bytes"
code_text code.InvalidEscapeSequence = codes "invalid escape sequence"
code_text code.InvalidKey = codes "invalid key"
code_text code.LeadingZero = codes "leading zero"
code_text code.LineTerminatorInString = codes "line terminator in string"
code_text code.OverflowParsingNumber = codes "overflow parsing number"
code_text code.TrailingCharacters = codes "trailing characters"
code_text code.TooDeep = codes "nested too deep"
code_text code.OutOfMemory = codes "out of memory"
code_text code.Failed = codes "failed before"
