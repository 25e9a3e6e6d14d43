-- What the short ways promise: a token is taken with the ASCII blanks before it, or nothing is.
-- A promise rests on this.
use denote.Ref.{Bor}
use Rattle.std.specs.Prelude.{◌≡◌, ℕ, ◌^◌, Bool, true, false, ◌==◌, List, ◌∷◌, ◌++◌, drop, ℤ, pos, neg_ℤ, ◌≤ℤ◌, Option, MatchOption}
use Rattle.std.specs.Str.{IsUtf8, IsCharBoundary, chars}
use Rattle.json5_grammar.specs.Language.Characters.{NotBegun, comma_sign}
use Rattle.json5_grammar.specs.Language.Blanks.{Gap, Solid}
use Rattle.json5_grammar.specs.Model.Collections.{IsSign, IsEnd}
use Rattle.json5_grammar.specs.Language.Numbers.{Number, Decimal, Num, whole, decimal, lengthens}
use Rattle.json5_grammar.specs.Model.ReadBlanks.{skip, between}
use Rattle.json5_grammar.specs.Model.ReadNumbers as model
use Rattle.json5_tokens.specs.declared.scanner.ShortStep.{ShortStep}
use Rattle.json5_tokens.specs.declared.scanner.ShortStep.TheVariants as short
use Rattle.json5_tokens.specs.TokenResults.{GivesValue}
use Rattle.json5_tokens.specs.Cursor.{Cursor}

-- blanks and then the number were taken
pub record TookNumber (old new : Cursor) (number : Number) : Type 0 where
  pub gap : List ℕ
  pub literal : List ℕ
  pub split : old.unread ≡ gap ++ (literal ++ new.unread)
  pub is_gap : Gap gap (literal ++ new.unread)
  pub is_number : Num literal number
  pub stops : NotBegun (lengthens literal) new.unread
  pub same : new.input ≡ old.input

abbrev pub TookWhole : Cursor → Cursor → ℤ → Type 0
TookWhole old new number = TookNumber old new (whole number)

-- that, and the number is in range
pub record TookInRange (min max : ℤ) (old new : Cursor) (number : ℤ) : Type 0 where
  pub took : TookWhole old new number
  pub low : min ≤ℤ number
  pub high : number ≤ℤ max

-- a whole number in range is taken, or nothing
abbrev pub TakesShortWhole : ℤ → ℤ → Cursor → Cursor → Option ℤ → Type 0
TakesShortWhole min max old new result = MatchOption result (new ≡ old) (λ number. TookInRange min max old new number)

-- a decimal is taken, or nothing
abbrev pub TakesShortDecimal : Cursor → Cursor → Option Decimal → Type 0
TakesShortDecimal old new result = MatchOption result (new ≡ old) (λ d. TookNumber old new (decimal d))

-- the number is read in front and leaves this rest; it has at most 19 digits
pub record IsWholeOfFewDigits (text : List ℕ) (number : ℤ) (rest : List ℕ) : Type 0 where
  pub gives : GivesValue (model.number (chars text)) (whole number) rest
  pub low : neg_ℤ (pos (10 ^ 19)) ≤ℤ number
  pub high : number ≤ℤ pos (10 ^ 19)

-- ---- a step to the next element or member

-- blanks are in front of the text, and this follows them
abbrev pub FollowsBlanks : List ℕ → Bor (List ℕ) → Type 0
FollowsBlanks text rest = GivesValue (skip between (chars text)) tt rest.now

-- y is what follows blanks at the front of x
pub record AfterGap (x y : List ℕ) : Type 0 where
  pub gap : List ℕ
  pub split : x ≡ gap ++ y
  pub is_gap : Gap gap y
  pub solid : Solid y

-- y is where an element or a member of x may begin, after the comma that is due
abbrev pub StepsTo : Bool → List ℕ → List ℕ → Type 0
StepsTo false x y = AfterGap x y
StepsTo true x y = (z : List ℕ) × IsSign comma_sign x z × AfterGap z y

-- the closing sign is next in y, after a comma, if there is one; or an element or a member may begin in y
abbrev pub IsStep : ℕ → Bool → Bool → List ℕ → List ℕ → Type 0
IsStep closing comma_due true x y = (r : List ℕ) × IsEnd closing comma_due x r × (y ≡ closing ∷ r)
IsStep closing comma_due false x y = StepsTo comma_due x y × NotBegun (λ c. c == closing) y

pub record Stepped (closing : ℕ) (comma_due at_closing : Bool) (old new : Cursor) : Type 0 where
  pub step : IsStep closing comma_due at_closing old.unread new.unread
  pub same : new.input ≡ old.input

-- a step to an element or a member, or to the closing sign, is taken, or nothing
abbrev pub TakesShortStep : ℕ → Bool → Cursor → Cursor → ShortStep → Type 0
TakesShortStep closing comma_due old new short.Entry = Stepped closing comma_due false old new
TakesShortStep closing comma_due old new short.Closing = Stepped closing comma_due true old new
TakesShortStep closing comma_due old new short.Other = new ≡ old

-- a step is found in front, and this follows it
pub record FindsStep (closing : ℕ) (comma_due at_closing : Bool) (text rest : List ℕ) : Type 0 where
  pub passed : List ℕ
  pub split : chars text ≡ passed ++ chars rest
  pub step : IsStep closing comma_due at_closing (chars text) (chars rest)
  pub text_rest : IsUtf8 rest

-- whether the ASCII character is in front
abbrev pub IsInFront : ℕ → List ℕ → Bool → Type 0
IsInFront sign text true = IsCharBoundary text 1 × (chars text ≡ sign ∷ chars (drop 1 text))
IsInFront sign text false = NotBegun (λ c. c == sign) (chars text)

-- ---- a sign

-- blanks and the sign are taken, or nothing
abbrev pub TakesShortSign : ℕ → Cursor → Cursor → Bool → Type 0
TakesShortSign sign old new true = IsSign sign old.unread new.unread × (new.input ≡ old.input)
TakesShortSign sign old new false = new ≡ old
