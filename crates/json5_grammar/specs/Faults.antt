-- The fault table: the faults of an input, each with its code, its position, the part at fault, and what shows it.
-- A promise rests on this.
pub mod Codes
pub mod CodeTexts
pub mod Positions
pub mod Tokens
pub mod Fronts
pub mod Blames
pub mod Parts
pub mod Refusals
pub mod Continuations
use Rattle.std.specs.Prelude.{◌≡◌, ◌≢◌, ℕ, Bool, true, false, ◌||◌, ◌==◌, List, [], ◌∷◌, ◌++◌, length, Option, Some, None, ◌⊎◌, ⊤}
use Rattle.json5_grammar.specs.Language.Characters.{letter_f, letter_n, letter_t, double_quote, single_quote, plus_sign, comma_sign, minus_sign, colon_sign, left_bracket, backslash, right_bracket, left_brace, right_brace, is_identifier_start}
use Rattle.json5_grammar.specs.Faults.Codes.{ErrorCode, EofParsingArray, EofParsingObject, EofParsingValue, ExpectedColon, ExpectedComma, ExpectedIdentifier, ExpectedValue, TrailingCharacters, TooDeep, Shown, by_char, by_end}
use Rattle.json5_grammar.specs.Language.Blanks.{is_solid}
use Rattle.json5_grammar.specs.Faults.Tokens.{CommentFault, begins_number, NumberFault, StringFault, NameFault, WordFault}
use Rattle.json5_grammar.specs.Language.Strings.{is_quote}
use Rattle.json5_grammar.specs.Faults.Fronts.{BracketKind, Bracket, Expects, takes_value, closing, Front, of_array, of_object, value, element, key, colon, comma, end}

-- the position of an Eof code: that of the innermost open bracket, if there is one
abbrev pub innermost : List Bracket → Option (List ℕ)
innermost [] = None
innermost (b ∷ o) = Some b.before

-- `n t f " ' + - . I N [ {` and digits
abbrev pub begins_value : ℕ → Bool
begins_value c =
    begins_number c || ((c == letter_n) || ((c == letter_t) || ((c == letter_f)
    || ((c == double_quote) || ((c == single_quote) || ((c == plus_sign) || ((c == minus_sign)
    || ((c == left_bracket) || (c == left_brace)))))))))

-- `]` is allowed where an element is expected
abbrev pub is_allowed_close : Expects → ℕ → Bool
is_allowed_close value c = false
is_allowed_close element c = c == right_bracket
is_allowed_close key c = false
is_allowed_close colon c = false
is_allowed_close comma c = false
is_allowed_close end c = false

-- the position of a token's fault in the input, if f comes before the token
abbrev pub lifted : List ℕ → List Bracket → Option (List ℕ) → Option (List ℕ)
lifted f o None = innermost o
lifted f o (Some p) = Some (f ++ p)

-- the innermost open bracket is of the kind
abbrev pub IsIn : BracketKind → List Bracket → Type 0
IsIn k [] = ⊥
IsIn k (b ∷ o) = b.kind ≡ k

-- the code where the input ends after an element or a member
abbrev pub eof_in : BracketKind → ErrorCode
eof_in of_array = EofParsingArray
eof_in of_object = EofParsingObject

-- The fault of an input that goes on with x where the brackets o are open and a is expected: its code (None: custom), what x has before its
-- position (None: it is that of the innermost bracket), what x has before the faulty part, the part, and what shows it.
pub data FaultAt (limit : ℕ) (o : List Bracket) : Expects → List ℕ → Option ErrorCode → Option (List ℕ) → List ℕ → List ℕ → Shown → Type 0 where
  -- wherever blanks are allowed
  in_comment : {x p : List ℕ} {a : Expects} {code : Option ErrorCode} {place : Option (List ℕ)} {shown : Shown} → CommentFault x code place p shown
      → FaultAt limit o a x code place [] p shown
  -- between tokens
  -- ExpectedValue at a character that begins no value
  no_value : {a : Expects} {c : ℕ} {r : List ℕ} → takes_value a ≡ true → is_solid c ≡ true → begins_value c ≡ false → is_allowed_close a c ≡ false
      → FaultAt limit o a (c ∷ r) (Some ExpectedValue) (Some []) [] (c ∷ []) by_char
  -- EofParsingValue
  value_missing : {a : Expects} → takes_value a ≡ true
      → FaultAt limit o a [] (Some EofParsingValue) None [] [] by_end
  -- TooDeep at the bracket after as many open ones as the limit
  nested_too_deep : {a : Expects} {c : ℕ} {r : List ℕ} → takes_value a ≡ true → ((c == left_bracket) || (c == left_brace)) ≡ true → length o ≡ limit
      → FaultAt limit o a (c ∷ r) (Some TooDeep) (Some []) [] (c ∷ []) by_char
  -- ExpectedComma at a character after an element or a member
  no_comma : {c : ℕ} {r : List ℕ} (k : BracketKind) → IsIn k o → is_solid c ≡ true → ((c == comma_sign) || (c == closing k)) ≡ false
      → FaultAt limit o comma (c ∷ r) (Some ExpectedComma) (Some []) [] (c ∷ []) by_char
  -- EofParsingArray or EofParsingObject after an element or a member
  comma_missing : (k : BracketKind) → IsIn k o
      → FaultAt limit o comma [] (Some (eof_in k)) None [] [] by_end
  -- ExpectedIdentifier at a character that begins no key
  no_key : {c : ℕ} {r : List ℕ} → is_solid c ≡ true → (is_quote c || ((c == backslash) || (is_identifier_start c || (c == right_brace)))) ≡ false
      → FaultAt limit o key (c ∷ r) (Some ExpectedIdentifier) (Some []) [] (c ∷ []) by_char
  -- EofParsingObject
  key_missing : FaultAt limit o key [] (Some EofParsingObject) None [] [] by_end
  -- ExpectedColon at a character after a key
  no_colon : {c : ℕ} {r : List ℕ} → is_solid c ≡ true → c ≢ colon_sign
      → FaultAt limit o colon (c ∷ r) (Some ExpectedColon) (Some []) [] (c ∷ []) by_char
  -- EofParsingObject
  colon_missing : FaultAt limit o colon [] (Some EofParsingObject) None [] [] by_end
  -- TrailingCharacters at a character after the value
  trailing : {c : ℕ} {r : List ℕ} → is_solid c ≡ true
      → FaultAt limit o end (c ∷ r) (Some TrailingCharacters) (Some []) [] (c ∷ []) by_char
  -- where a value is expected
  in_word : {x p : List ℕ} {a : Expects} {code : Option ErrorCode} {place : Option (List ℕ)} {shown : Shown} → takes_value a ≡ true
      → WordFault x code place p shown
      → FaultAt limit o a x code place [] p shown
  in_number : {x p : List ℕ} {a : Expects} {code : Option ErrorCode} {place : Option (List ℕ)} {shown : Shown} → takes_value a ≡ true
      → NumberFault x code place p shown
      → FaultAt limit o a x code place [] p shown
  -- where a value or a key is expected
  in_a_string : {x b p : List ℕ} {a : Expects} {code : Option ErrorCode} {place : Option (List ℕ)} {shown : Shown}
      → (takes_value a ≡ true) ⊎ (a ≡ key)
      → StringFault x code place b p shown
      → FaultAt limit o a x code place b p shown
  in_a_name : {x b p : List ℕ} {code : Option ErrorCode} {place : Option (List ℕ)} {shown : Shown} → NameFault x code place b p shown
      → FaultAt limit o key x code place b p shown

-- the input has this fault, where what is expected passes the test: its code (None: custom), what comes before its position (None: it has
-- none), what comes before the faulty part, the part, and what shows it
pub data FaultWhere (Where : Expects → Type 0) (limit : ℕ) : List ℕ → Option ErrorCode → Option (List ℕ) → List ℕ → List ℕ → Shown → Type 0 where
  fault : {f x b p : List ℕ} {o : List Bracket} {a : Expects} {code : Option ErrorCode} {place : Option (List ℕ)} {shown : Shown}
      → Front limit f x o a → Where a
      → FaultAt limit o a x code place b p shown
      → FaultWhere Where limit (f ++ x) code (lifted f o place) (f ++ b) p shown

abbrev pub Anywhere : Expects → Type 0
Anywhere a = ⊤

abbrev pub InValue : Expects → Type 0
InValue a = a ≢ end

-- the input has this fault
abbrev pub Fault : ℕ → List ℕ → Option ErrorCode → Option (List ℕ) → List ℕ → List ℕ → Shown → Type 0
Fault = FaultWhere Anywhere

-- the value that the input begins with has this fault
abbrev pub ValueFault : ℕ → List ℕ → Option ErrorCode → Option (List ℕ) → List ℕ → List ℕ → Shown → Type 0
ValueFault = FaultWhere InValue
