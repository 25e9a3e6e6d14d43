-- What is refused before an entry of brackets: where the next one is expected, or the colon of a member.
-- A promise rests on this.
use Rattle.std.specs.Prelude.{◌≡◌, ℕ, Bool, true, false, ◌==◌, List, [], ◌∷◌, ◌++◌, Option, Some, None}
use Rattle.json5_grammar.specs.declared.error_code.ErrorCode.{ErrorCode}
use Rattle.json5_grammar.specs.declared.error_code.ErrorCode.TheVariants as codes
use Rattle.json5_grammar.specs.Faults.Codes.{after_text}
use Rattle.json5_grammar.specs.Language.Blanks.{Gap, Solid}
use Rattle.json5_grammar.specs.Language.Characters.{comma_sign, colon_sign}
use Rattle.json5_tokens.specs.TokenFaults.{FaultyBlanks}
use Rattle.json5_read.specs.declared.brackets.BracketPair.{BracketPair}

-- which faults an input has: the code, None for a custom message; and the input before its position, None for no position
abbrev pub FaultRelation : Type 1
FaultRelation = List ℕ → Option ErrorCode → Option (List ℕ) → Type 0

-- a comment in front is at fault, or what follows the gap isn't expected
pub data AfterBlanks (IsFault : FaultRelation) : List ℕ → Option ErrorCode → Option (List ℕ) → Type 0 where
  in_blanks : {x : List ℕ} {reason : Option ErrorCode} {place : Option (List ℕ)} → FaultyBlanks x reason place → AfterBlanks IsFault x reason place
  after_gap : {w x : List ℕ} {reason : Option ErrorCode} {place : Option (List ℕ)} → Gap w x → Solid x → IsFault x reason place → AfterBlanks IsFault (w ++ x) reason (after_text w place)

-- what is refused where the next element or member is expected
pub data NoNext (b : BracketPair) (comma_due : Bool) : List ℕ → Option ErrorCode → Option (List ℕ) → Type 0 where
  no_comma : (c : ℕ) (r : List ℕ) → comma_due ≡ true → (c == comma_sign) ≡ false → (c == b.closing) ≡ false → NoNext b comma_due (c ∷ r) (Some codes.ExpectedComma) (Some [])
  comma_missing : comma_due ≡ true → NoNext b comma_due [] (Some b.ends) None
  in_blanks_after : {x : List ℕ} {reason : Option ErrorCode} {place : Option (List ℕ)} → comma_due ≡ true → FaultyBlanks x reason place → NoNext b comma_due (comma_sign ∷ x) reason (after_text (comma_sign ∷ []) place)

-- what is refused where the colon after a key is expected
pub data NoColon : List ℕ → Option ErrorCode → Option (List ℕ) → Type 0 where
  no_colon : (c : ℕ) (r : List ℕ) → (c == colon_sign) ≡ false → NoColon (c ∷ r) (Some codes.ExpectedColon) (Some [])
  colon_missing : NoColon [] (Some codes.EofParsingObject) None
