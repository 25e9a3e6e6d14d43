-- A number in front of the input as code holds it. Private clauses and proofs alone cite it.
-- Private.
use Rattle.std.specs.Prelude.{◌≡◌, ◌==◌, ℕ, min, Bool, true, false, cond, List, [], ◌∷◌, ℤ, pos, Option, Some, None, IfSome}
use Rattle.std.specs.Option.{option_map}
use Rattle.std.specs.Str.{IsUtf8, chars}
use Rattle.json5_grammar.specs.Language.Characters.{plus_sign, minus_sign, is_digit, Each}
use Rattle.json5_grammar.specs.Language.Numbers as numbers
use Rattle.json5_grammar.specs.Language.Numbers.{signed, spelled, in_run}
use Rattle.json5_grammar.specs.Model.ReadNumbers.{Parts, is_whole, front_of, rest_of, if_literal, unsigned, decimal_run}
use Rattle.json5_grammar.specs.Model.Reading.{got, bad, here}
use Rattle.json5_grammar.specs.declared.error_code.ErrorCode.TheVariants.{OverflowParsingNumber}
use Rattle.json5_tokens.specs.declared.numbers.decimal_literals.Exponent.{Exponent}
use Rattle.json5_tokens.specs.declared.numbers.decimal_literals.DecimalLiteral.{DecimalLiteral}
use Rattle.json5_tokens.specs.declared.numbers.slices.Scanned.{Scanned}
use Rattle.json5_tokens.specs.declared.numbers.decimal_literals.Tail.{Tail}
use Rattle.json5_tokens.specs.declared.numbers.slices.Scanned.TheVariants as scanned

abbrev pub scanned_of : Scanned → numbers.Number
scanned_of (scanned.Whole z) = numbers.whole z
scanned_of (scanned.Infinite m) = numbers.decimal (numbers.infinite m)
scanned_of (scanned.NotANumber m) = numbers.decimal (numbers.nan m)
scanned_of (scanned.Finite d) = numbers.decimal d

-- ---- a decimal literal

abbrev pub raised_of : Exponent → ℤ
raised_of e = signed e.negative (spelled 10 0 e.digits.now)

abbrev pub parts_of : DecimalLiteral → Parts
parts_of l = record { before = l.before.now; after = option_map (λ digits. digits.now) l.after; raised = option_map raised_of l.exponent }

-- the digits before the point, and those after it
abbrev pub digits_of : DecimalLiteral → List ℕ
digits_of l = numbers.all_digits (parts_of l).before (parts_of l).after

-- the written exponent, or the limit if that is less
abbrev pub signed_limited : ℕ → Exponent → ℤ
signed_limited limit e = signed e.negative (min limit (spelled 10 0 e.digits.now))

-- 0 if there is no exponent
abbrev pub limited_exponent : ℕ → Option Exponent → ℤ
limited_exponent limit None = pos 0
limited_exponent limit (Some e) = signed_limited limit e

abbrev pub is_whole_literal : Bool → DecimalLiteral → Bool
is_whole_literal negative l = is_whole negative (parts_of l).before (parts_of l).after (parts_of l).raised

abbrev pub HasExponentDigits : Exponent → Type 0
HasExponentDigits e = Each is_digit e.digits.now

pub record HasDigits (l : DecimalLiteral) : Type 0 where
  pub before : Each is_digit l.before.now
  pub after : IfSome l.after (λ digits. Each is_digit digits.now)
  pub exponent : IfSome l.exponent HasExponentDigits

-- the literal means this decimal; or its exponent is out of range
abbrev pub MeansDecimal : Bool → DecimalLiteral → Option numbers.Decimal → Type 0
MeansDecimal negative l None = (start rest : List ℕ) → if_literal start negative rest (Some (parts_of l)) ≡ bad (Some OverflowParsingNumber) (here start)
MeansDecimal negative l (Some d) = (start rest : List ℕ) → if_literal start negative rest (Some (parts_of l)) ≡ got (numbers.decimal d) rest

-- unless it means a whole number, the literal means these digits times ten to the exponent
abbrev pub MeansFinite : DecimalLiteral → List ℕ → ℤ → Type 0
MeansFinite l digits exponent = (negative : Bool) → is_whole_literal negative l ≡ false → MeansDecimal negative l (Some (numbers.finite negative digits exponent))

-- ---- a decimal run in front of the input

-- the list begins with a character that passes the test
abbrev pub begun : (ℕ → Bool) → List ℕ → Bool
begun p [] = false
begun p (c ∷ x) = p c

-- whether a minus is in front, and what follows the sign in front, if there is one
abbrev pub split_sign : List ℕ → Bool × List ℕ
split_sign [] = (false, [])
split_sign (c ∷ x) = cond (c == plus_sign) (false, x) (cond (c == minus_sign) (true, x) (false, c ∷ x))

-- an unsigned number in front of the text is a decimal run
abbrev pub IsAtRun : List ℕ → Type 0
IsAtRun x = (start : List ℕ) (negative : Bool) → unsigned start negative x ≡ decimal_run start negative x

abbrev pub run_of : List ℕ → List ℕ
run_of x = front_of in_run x

-- the rest is what follows the decimal run in front
pub record EndsRun (whole rest : List ℕ) : Type 0 where
  pub follows : chars rest ≡ rest_of in_run (chars whole)
  pub text : IsUtf8 rest

abbrev pub raised_in : Tail → Option ℤ
raised_in t = option_map raised_of t.exponent

-- the exponent, that it is digits, and what follows the decimal run in front
pub record IsTail (reading : Option (Option ℤ)) (whole : List ℕ) (t : Tail) : Type 0 where
  pub read : reading ≡ Some (raised_in t)
  pub digits : IfSome t.exponent HasExponentDigits
  pub ends : EndsRun whole t.rest.now

-- the tail, if reading gives one
abbrev pub ReadsTail : Option (Option ℤ) → List ℕ → Option Tail → Type 0
ReadsTail reading whole None = reading ≡ None
ReadsTail reading whole (Some t) = IsTail reading whole t

-- the literal, that its parts are digits, and what follows the decimal run in front
pub record IsDecimalLiteral (reading : Option Parts) (whole : List ℕ) (l : DecimalLiteral) : Type 0 where
  pub read : reading ≡ Some (parts_of l)
  pub digits : HasDigits l
  pub ends : EndsRun whole l.rest.now

-- the literal, if reading gives one
abbrev pub ReadsDecimalLiteral : Option Parts → List ℕ → Option DecimalLiteral → Type 0
ReadsDecimalLiteral reading whole None = reading ≡ None
ReadsDecimalLiteral reading whole (Some l) = IsDecimalLiteral reading whole l
