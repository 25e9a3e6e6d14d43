-- Which kind a value is, how many it holds, and the number that it is in the machine's types.
-- A promise rests on this.
use Rattle.std.specs.Prelude.{◌≡◌, ℕ, suc, ℤ, pos, ◌≤ℤ◌, ◌<ℤ◌, Option, Some, None, MatchOption}
use Rattle.json5_grammar.specs.Language.Numbers.{Number}
use Rattle.json5_types.specs.NumberWholes.{Converts}
use Rattle.json5_types.specs.ValueLookups.{whole_of}
use Rattle.json5_types.specs.ValueMeanings.{Datum, number, array, object, Items, no_item, item, Fields, no_field, field}

-- the number, if it is one
abbrev pub number_in : Datum → Option Number
number_in (number n) = Some n
number_in _ = None

abbrev pub items_len : Items → ℕ
items_len no_item = 0
items_len (item x xs) = suc (items_len xs)

abbrev pub fields_len : Fields → ℕ
fields_len no_field = 0
fields_len (field u x fs) = suc (fields_len fs)

-- how many elements or members it has, if it is an array or an object
abbrev pub len_of : Datum → Option ℕ
len_of (array xs) = Some (items_len xs)
len_of (object fs) = Some (fields_len fs)
len_of _ = None

-- the members of an object; no other value has any
abbrev pub members_of : Datum → Fields
members_of (object fs) = fs
members_of _ = no_field

-- ---- whole numbers in the machine's types

-- from 0 to below the bound
pub record IsBelow (bound : ℕ) (z : ℤ) : Type 0 where
  pub low : pos 0 ≤ℤ z
  pub high : z <ℤ pos bound

-- the whole number that it is, in a narrower type, if it is one and fits there
abbrev pub ReadsWhole : {A : Type 0} → (A → ℤ) → (ℤ → Type 0) → Datum → Option A → Type 0
ReadsWhole number_of fits x result = MatchOption (whole_of x) (result ≡ None) (λ z. Converts number_of fits z result)
