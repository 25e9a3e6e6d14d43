-- Canonical forms: bytes that are the same for equal values.
-- A promise rests on this.
use Rattle.std.specs.Prelude.{◌≡◌, ⊤, ℕ, Bool, true, ◌&&◌, ◌||◌, not, if◌then◌else◌, List, [], ◌∷◌, ◌++◌, Vec}
use Rattle.std.specs.declared.alloc.Global.{Global}
use Rattle.std.specs.Borrow.{Bor}
use Rattle.std.specs.BTreeMap.{BTreeMap}
use Rattle.std.specs.BTreeSet.{BTreeSet, contains_by}
use Rattle.std.specs.FinMap.{FinMap, empty, insert, entries}
use Rattle.std.specs.Cmp.Lexicographic.{slice_cmp}
use Rattle.std.specs.Int.{w16, cast_unsigned, to_be_bytes}
use Rattle.std.specs.Ordering.{nat_cmp}
use Rattle.std.specs.Str.{chars, encode_utf8_all}
use Rattle.json5_grammar.specs.Language.Characters.{double_quote, letter_f, letter_n, letter_t, left_bracket, right_bracket, left_brace, right_brace}
use Rattle.json5_grammar.specs.Language.Numbers.{Decimal, is_empty}
use Rattle.json5_grammar.specs.Written.NumberText.{Normal}
use Rattle.json5_types.specs.NumberDecimals.{has_minus, is_infinity, is_not_a_number, digits_in, exponent_in}
use Rattle.json5_types.specs.ValueMeanings.{Datum, null, boolean, number, text, array, object, Items, no_item, item, Fields, no_field, field}
use Rattle.json5_numbers.specs.NumberTexts.{decimal_of}

-- ---- numbers

abbrev pub kind_byte : Decimal → ℕ
kind_byte d = if is_not_a_number d then 0x3F else if is_infinity d then 0x49 else 0x23

-- zero has none
abbrev pub shows_minus : Decimal → Bool
shows_minus d = has_minus d && (is_not_a_number d || (is_infinity d || not (is_empty (digits_in d))))

abbrev pub sign_byte : Decimal → ℕ
sign_byte d = if shows_minus d then 0x2D else 0x2B

-- its kind, its sign, the power of ten and the digits
abbrev pub decimal_form : Decimal → List ℕ
decimal_form d = kind_byte d ∷ sign_byte d ∷ (to_be_bytes w16 (cast_unsigned w16 (exponent_in d)) ++ digits_in d)

-- ---- values

-- between a quote and a byte that no text has
abbrev pub text_form : List ℕ → List ℕ
text_form bytes = double_quote ∷ (bytes ++ 0xFF ∷ [])

-- forms by names, in the order of these
abbrev pub Forms : Type 0
Forms = FinMap (slice_cmp nat_cmp) (List ℕ)

abbrev pub no_forms : Forms
no_forms = empty

-- names and forms, one after the other
abbrev pub members_form : List (List ℕ × List ℕ) → List ℕ
members_form [] = []
members_form (e ∷ es) = text_form e.0 ++ (e.1 ++ members_form es)

abbrev mutual
  pub form : Datum → List ℕ
  form null = letter_n ∷ []
  form (boolean b) = if b then letter_t ∷ [] else letter_f ∷ []
  form (number n) = decimal_form (decimal_of n)
  form (text u) = text_form (encode_utf8_all u)
  form (array xs) = left_bracket ∷ (items_form xs ++ right_bracket ∷ [])
  form (object fs) = left_brace ∷ (members_form (entries (forms_with no_forms fs)) ++ right_brace ∷ [])

  pub items_form : Items → List ℕ
  items_form no_item = []
  items_form (item x xs) = form x ++ items_form xs

  -- with those of the members put in, one after the other: of equal names the last counts
  pub forms_with : Forms → Fields → Forms
  forms_with m no_field = m
  forms_with m (field u x fs) = forms_with (insert m (encode_utf8_all u) (form x)) fs

-- ---- values as the code has them

-- each decimal is normal, and each name is a text
abbrev mutual
  pub IsSound : Datum → Type 0
  IsSound (number n) = Normal (decimal_of n)
  IsSound (array xs) = AreSound xs
  IsSound (object fs) = HasSound fs
  IsSound _ = ⊤

  pub AreSound : Items → Type 0
  AreSound no_item = ⊤
  AreSound (item x xs) = IsSound x × AreSound xs

  pub HasSound : Fields → Type 0
  HasSound no_field = ⊤
  HasSound (field u x fs) = (chars (encode_utf8_all u) ≡ u) × IsSound x × HasSound fs

-- the form of this value comes behind the bytes
pub record AddsForm (old new : List ℕ) (x : Datum) : Type 0 where
  pub bytes : new ≡ old ++ form x
  pub sound : IsSound x

-- the map's entries, as bytes
abbrev pub read : List (Bor (List ℕ) × Vec ℕ Global) → List (List ℕ × List ℕ)
read [] = []
read (e ∷ es) = (e.0.now, e.1.items) ∷ read es

-- the map has the forms of these members by their names
pub record HoldsForms (m : BTreeMap (Bor (List ℕ)) (Vec ℕ Global)) (fs : Fields) : Type 0 where
  pub forms : read m.entries ≡ entries (forms_with no_forms fs)
  pub sound : HasSound fs

-- the set has this form
abbrev pub has_form : List ℕ → BTreeSet (Vec ℕ Global) → Bool
has_form bytes s = contains_by (λ k. slice_cmp nat_cmp bytes k.items) s

-- the set has the form of each of these
abbrev pub SeesForms : BTreeSet (Vec ℕ Global) → Items → Type 0
SeesForms s no_item = ⊤
SeesForms s (item x xs) = IsSound x × (has_form (form x) s ≡ true) × SeesForms s xs
