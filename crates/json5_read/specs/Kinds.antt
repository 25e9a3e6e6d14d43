-- What a value begins with, and the literals.
-- A promise rests on this.
use Rattle.std.specs.Prelude.{ℕ, ◌==◌, ◌||◌, cond, List}
use Rattle.json5_grammar.specs.declared.error_code.ErrorCode.{ErrorCode}
use Rattle.json5_grammar.specs.declared.error_code.ErrorCode.TheVariants as codes
use Rattle.json5_grammar.specs.Language.Characters.{letter_f, letter_n, letter_t}
use Rattle.json5_grammar.specs.Faults.Tokens.{is_sign, begins_number}
use Rattle.json5_grammar.specs.Language.Strings.{is_quote}
use Rattle.json5_grammar.specs.Language.Values.{null_text, true_text, false_text}
use Rattle.json5_read.specs.declared.kinds.Literal.{Literal}
use Rattle.json5_read.specs.declared.kinds.Literal.TheVariants as literal
use Rattle.json5_read.specs.declared.kinds.ValueKind.{ValueKind}
use Rattle.json5_read.specs.declared.kinds.ValueKind.TheVariants as kind

-- what the character begins
abbrev pub kind_at : ℕ → ValueKind
kind_at c = cond (c == letter_n) (kind.Literal literal.Null) (cond (c == letter_t) (kind.Literal literal.True) (cond (c == letter_f) (kind.Literal literal.False) (cond (is_quote c) kind.String (cond (is_sign c || begins_number c) kind.Number kind.Other))))

-- the word of a literal
abbrev pub word_of : Literal → List ℕ
word_of literal.Null = null_text
word_of literal.True = true_text
word_of literal.False = false_text

-- the code if the input ends within it
abbrev pub ends_of : Literal → ErrorCode
ends_of literal.Null = codes.EofParsingNull
ends_of _ = codes.EofParsingBool

-- the code at a character that differs from the literal's
abbrev pub differs_of : Literal → ErrorCode
differs_of literal.Null = codes.ExpectedNull
differs_of _ = codes.ExpectedBool
