-- No fault of the input is that a reader had failed.
use Rattle.std.proofs.Common.{◌≡◌, ◌≢◌, ℕ, Bool, List, ◌∙◌, sym, Option, Some, None}
use Rattle.json5_grammar.specs.declared.error_code.ErrorCode.{ErrorCode}
use Rattle.json5_grammar.specs.declared.error_code.ErrorCode.TheVariants as codes
use Rattle.json5_grammar.specs.Faults.Tokens.{BlankFault, CommentFault, in_comment, no_comment, slash_ends, block_ends, NumberFault, number_word_differs, number_word_ends, sign_without_number, sign_ends, no_hexadecimal_digit, hexadecimal_ends, hexadecimal_overflows, negative_too_large, not_a_literal, literal_overflows, leading_zero, NameFault, no_unicode_escape, escaped_no_start, escaped_no_part, name_ends, backslash_ends, StringFault, EscapeFault, raw_terminator, string_ends, in_string_escape, digit_after_nul, escaped_digit, no_escape_digit, no_second_escape, unpaired, escape_ends}
use Rattle.json5_grammar.specs.Faults.Codes.{Shown}
use Rattle.json5_tokens.specs.TokenFaults.{FaultyString, no_quote, string_missing, FaultyName, no_name, name_missing, FaultyKey, at_quote, at_name, FaultyWord, word_differs, word_ends, FaultyNumber, faulty, no_number, number_missing}
use Rattle.json5_types.specs.declared.error.Error.{Error}
use Rattle.json5_types.specs.Errors.{code, custom, kind_of}
use Rattle.json5_tokens.specs.Cursor.{Says, IsOutOfMemory}

-- no fault of the relation has this code
abbrev pub Lacks : (List ℕ → Option ErrorCode → Option (List ℕ) → Type 0) → Type 0
Lacks F = (x : List ℕ) (reason : Option ErrorCode) (place : Option (List ℕ)) → F x reason place → reason ≢ Some codes.Failed

in_comment_other : {x part : List ℕ} {reason : Option ErrorCode} {place : Option (List ℕ)} {shown : Shown} → CommentFault x reason place part shown → reason ≢ Some codes.Failed
in_comment_other (no_comment c r h) e = absurd (cc)
in_comment_other slash_ends e = absurd (cc)
in_comment_other (block_ends i) e = absurd (cc)

pub in_blanks_other : {x before part : List ℕ} {reason : Option ErrorCode} {place : Option (List ℕ)} {shown : Shown} → BlankFault x reason place before part shown → reason ≢ Some codes.Failed
in_blanks_other (in_comment b f) = in_comment_other f

pub word_lacks : (w : List ℕ) (ends differs : ErrorCode) → ends ≢ codes.Failed → differs ≢ codes.Failed → Lacks (FaultyWord w ends differs)
word_lacks w ends differs a b x reason place (word_differs p q r c d e h) k = b cc
word_lacks w ends differs a b x reason place (word_ends p q d e) k = a cc

in_number_other : {x part : List ℕ} {reason : Option ErrorCode} {place : Option (List ℕ)} {shown : Shown} → NumberFault x reason place part shown → reason ≢ Some codes.Failed
in_number_other (number_word_differs r w p s d c h i j k l) e = absurd (cc)
in_number_other (number_word_ends w p s d h i j k) e = absurd (cc)
in_number_other (sign_without_number r h i) e = absurd (cc)
in_number_other (sign_ends h) e = absurd (cc)
in_number_other (no_hexadecimal_digit r s x c h i j) e = absurd (cc)
in_number_other (hexadecimal_ends s x h i) e = absurd (cc)
in_number_other (hexadecimal_overflows r s h x c i j k l m n) e = absurd (cc)
in_number_other (negative_too_large r h c x i j k l m) e = absurd (cc)
in_number_other (not_a_literal r n c h i j) e = absurd (cc)
in_number_other (literal_overflows r s l i c h j k m n) e = absurd (cc)
in_number_other (leading_zero r s c h i) e = absurd (cc)

pub faulty_number_lacks : Lacks FaultyNumber
faulty_number_lacks x reason place (faulty f) = in_number_other f
faulty_number_lacks x reason place (no_number c r h) = λ e. absurd (cc)
faulty_number_lacks x reason place number_missing = λ e. absurd (cc)

-- ---- strings and names

pub in_escape_other : {in_string : Bool} {x part : List ℕ} {reason : Option ErrorCode} {place : Option (List ℕ)} {shown : Shown} → EscapeFault in_string x reason place part shown → reason ≢ Some codes.Failed
in_escape_other (digit_after_nul r h) e = absurd (cc)
in_escape_other (escaped_digit r h) e = absurd (cc)
in_escape_other (no_escape_digit c r i h) e = absurd (cc)
in_escape_other (no_second_escape c r a h) e = absurd (cc)
in_escape_other (unpaired r h l s p) e = absurd (cc)
in_escape_other (escape_ends h) e = absurd (cc)

in_string_other : {x before part : List ℕ} {reason : Option ErrorCode} {place : Option (List ℕ)} {shown : Shown} → StringFault x reason place before part shown → reason ≢ Some codes.Failed
in_string_other (raw_terminator r q i h) e = absurd (cc)
in_string_other (string_ends q i) e = absurd (cc)
in_string_other (in_string_escape q i f) e = in_escape_other f e

pub faulty_string_lacks : Lacks FaultyString
faulty_string_lacks x reason place (faulty f) = in_string_other f
faulty_string_lacks x reason place (no_quote c r h) = λ e. absurd (cc)
faulty_string_lacks x reason place string_missing = λ e. absurd (cc)

-- ---- names

in_name_other : {x before part : List ℕ} {reason : Option ErrorCode} {place : Option (List ℕ)} {shown : Shown} → NameFault x reason place before part shown → reason ≢ Some codes.Failed
in_name_other (NameFault.in_name_escape n f) e = in_escape_other f e
in_name_other (no_unicode_escape c r n h) e = absurd (cc)
in_name_other (escaped_no_start r u h) e = absurd (cc)
in_name_other (escaped_no_part r i u h) e = absurd (cc)
in_name_other (name_ends i) e = absurd (cc)
in_name_other (backslash_ends n) e = absurd (cc)

pub faulty_name_lacks : Lacks FaultyName
faulty_name_lacks x reason place (faulty f) = in_name_other f
faulty_name_lacks x reason place (no_name c r h) = λ e. absurd (cc)
faulty_name_lacks x reason place name_missing = λ e. absurd (cc)

pub key_lacks : Lacks FaultyKey
key_lacks x reason place (at_quote q r split h f) = faulty_string_lacks x reason place f
key_lacks x reason place (at_name h f) = faulty_name_lacks x reason place f

-- ---- what a fault says

pub other_says : (reason : Option ErrorCode) (e : Error) → reason ≢ Some codes.Failed → Says reason e → kind_of e ≢ code codes.Failed
other_says (Some c) e h s k = h (let same : code c ≡ code codes.Failed = sym s ∙ k in cc)
other_says None e h (own, s) k = let same : custom own ≡ code codes.Failed = sym s ∙ k in absurd (cc)

pub memory_other : (e : Error) → IsOutOfMemory e → kind_of e ≢ code codes.Failed
memory_other e m k = let same : code codes.OutOfMemory ≡ code codes.Failed = sym m ∙ k in absurd (cc)
