-- How deep a value is nested, and what is found in it.
-- A promise rests on this.
use Rattle.std.specs.Prelude.{◌≡◌, ℕ, zero, suc, max, Bool, true, false, if◌then◌else◌, nat_eq, nat_le, List, ℤ, Option, Some, None, Result, Ok, Err}
use Rattle.std.specs.Cmp.Lexicographic.{pointwise}
use Rattle.json5_grammar.specs.Language.Numbers.{Decimal, whole, decimal}
use Rattle.json5_grammar.specs.Language.Documents.{max_depth}
use Rattle.json5_grammar.specs.declared.error_code.ErrorCode.TheVariants as codes
use Rattle.json5_types.specs.declared.error.Error.{Error}
use Rattle.json5_types.specs.declared.value.Value.{Value}
use Rattle.json5_types.specs.Errors.{code, kind_of, error_position}
use Rattle.json5_types.specs.ValueMeanings.{value_of, Datum, null, boolean, number, text, array, object, Items, no_item, item, Fields, no_field, field}

-- 0 if it is no array and no object, otherwise one more than the deepest inside
abbrev mutual
  pub datum_depth : Datum → ℕ
  datum_depth (array xs) = suc (items_depth xs)
  datum_depth (object fs) = suc (fields_depth fs)
  datum_depth _ = 0

  pub items_depth : Items → ℕ
  items_depth no_item = 0
  items_depth (item x xs) = max (datum_depth x) (items_depth xs)

  pub fields_depth : Fields → ℕ
  fields_depth no_field = 0
  fields_depth (field u x fs) = max (datum_depth x) (fields_depth fs)

-- no more brackets are open anywhere than the limit
abbrev pub fits_within : ℕ → Datum → Bool
fits_within limit x = nat_le (datum_depth x) limit

-- no more than 128 are
abbrev pub fits : Datum → Bool
fits x = fits_within max_depth x

-- ---- what is found

-- the element with so many before it
abbrev pub item_at : ℕ → Items → Option Datum
item_at n no_item = None
item_at zero (item x xs) = Some x
item_at (suc n) (item x xs) = item_at n xs

abbrev pub element_of : ℕ → Datum → Option Datum
element_of n (array xs) = item_at n xs
element_of n _ = None

abbrev pub or_else : Option Datum → Option Datum → Option Datum
or_else None other = other
or_else (Some x) other = Some x

-- the value of the last member with this key
abbrev pub last_named : List ℕ → Fields → Option Datum
last_named key no_field = None
last_named key (field u x fs) = or_else (last_named key fs) (if pointwise nat_eq u key then Some x else None)

abbrev pub named_of : List ℕ → Datum → Option Datum
named_of key (object fs) = last_named key fs
named_of key _ = None

-- ---- what a value is

abbrev pub is_null : Datum → Bool
is_null null = true
is_null _ = false

abbrev pub boolean_of : Datum → Option Bool
boolean_of (boolean b) = Some b
boolean_of _ = None

abbrev pub whole_of : Datum → Option ℤ
whole_of (number (whole z)) = Some z
whole_of _ = None

abbrev pub decimal_in : Datum → Option Decimal
decimal_in (number (decimal d)) = Some d
decimal_in _ = None

abbrev pub text_in : Datum → Option (List ℕ)
text_in (text u) = Some u
text_in _ = None

abbrev pub items_in : Datum → Option Items
items_in (array xs) = Some xs
items_in _ = None

abbrev pub fields_in : Datum → Option Fields
fields_in (object fs) = Some fs
fields_in _ = None

-- ---- copies

-- A copy has the same view. It is TooDeep if the value doesn't fit; otherwise it is refused only if memory runs out.
abbrev pub CopiesValue : Datum → Result Value Error → Type 0
CopiesValue x (Ok v) = (fits x ≡ true) × (value_of v ≡ x)
CopiesValue x (Err e) = (kind_of e ≡ code (if fits x then codes.OutOfMemory else codes.TooDeep)) × (error_position e ≡ None)
