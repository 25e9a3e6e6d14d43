-- What is refused where a token is expected: the token's own faults, and what begins no such token.
-- A promise rests on this.
use Rattle.std.specs.Prelude.{◌≡◌, ◌≢◌, ℕ, true, false, ◌||◌, ◌==◌, List, [], ◌∷◌, ◌++◌, Option, Some, None}
use Rattle.json5_grammar.specs.declared.error_code.ErrorCode.{ErrorCode}
use Rattle.json5_grammar.specs.declared.error_code.ErrorCode.TheVariants.{EofParsingIdentifier, EofParsingNumber, EofParsingString, ExpectedIdentifier, ExpectedNumber, ExpectedString}
use Rattle.json5_grammar.specs.Language.Characters.{backslash, is_identifier_start, NotBegun}
use Rattle.json5_grammar.specs.Faults.Codes.{Shown}
use Rattle.json5_grammar.specs.Faults.Tokens.{BlankFault, NumberFault, is_sign, begins_number, StringFault, NameFault}
use Rattle.json5_grammar.specs.Language.Strings.{is_quote}

-- blanks with a faulty comment after them
abbrev pub FaultyBlanks : List ℕ → Option ErrorCode → Option (List ℕ) → Type 0
FaultyBlanks x reason place = (before : List ℕ) × (part : List ℕ) × (shown : Shown) × BlankFault x reason place before part shown

-- the word w isn't in front: `differs` at the first character that differs, `ends` if the input ends in it
pub data FaultyWord (w : List ℕ) (ends differs : ErrorCode) : List ℕ → Option ErrorCode → Option (List ℕ) → Type 0 where
  word_differs : (p q r : List ℕ) (c d : ℕ) → w ≡ p ++ d ∷ q → c ≢ d → FaultyWord w ends differs (p ++ c ∷ r) (Some differs) (Some p)
  word_ends : (p q : List ℕ) (d : ℕ) → w ≡ p ++ d ∷ q → FaultyWord w ends differs p (Some ends) None

pub data FaultyNumber : List ℕ → Option ErrorCode → Option (List ℕ) → Type 0 where
  faulty : {x part : List ℕ} {reason : Option ErrorCode} {place : Option (List ℕ)} {shown : Shown} → NumberFault x reason place part shown → FaultyNumber x reason place
  -- ExpectedNumber at a character that begins no number
  no_number : (c : ℕ) (r : List ℕ) → (is_sign c || begins_number c) ≡ false → FaultyNumber (c ∷ r) (Some ExpectedNumber) (Some [])
  -- EofParsingNumber at the end
  number_missing : FaultyNumber [] (Some EofParsingNumber) None

pub data FaultyString : List ℕ → Option ErrorCode → Option (List ℕ) → Type 0 where
  faulty : {x before part : List ℕ} {reason : Option ErrorCode} {place : Option (List ℕ)} {shown : Shown} → StringFault x reason place before part shown → FaultyString x reason place
  -- ExpectedString at a character that is no quote
  no_quote : (c : ℕ) (r : List ℕ) → is_quote c ≡ false → FaultyString (c ∷ r) (Some ExpectedString) (Some [])
  -- EofParsingString at the end
  string_missing : FaultyString [] (Some EofParsingString) None

pub data FaultyName : List ℕ → Option ErrorCode → Option (List ℕ) → Type 0 where
  faulty : {x before part : List ℕ} {reason : Option ErrorCode} {place : Option (List ℕ)} {shown : Shown} → NameFault x reason place before part shown → FaultyName x reason place
  -- ExpectedIdentifier at a character that begins no name
  no_name : (c : ℕ) (r : List ℕ) → ((c == backslash) || is_identifier_start c) ≡ false → FaultyName (c ∷ r) (Some ExpectedIdentifier) (Some [])
  -- EofParsingIdentifier at the end
  name_missing : FaultyName [] (Some EofParsingIdentifier) None

-- at a quote the faults of a string, else those of an identifier
pub data FaultyKey (x : List ℕ) (reason : Option ErrorCode) (place : Option (List ℕ)) : Type 0 where
  at_quote : (q : ℕ) (r : List ℕ) → x ≡ q ∷ r → is_quote q ≡ true → FaultyString x reason place → FaultyKey x reason place
  at_name : NotBegun is_quote x → FaultyName x reason place → FaultyKey x reason place
