-- When two values are equal: numbers by their size, elements one by one, and members in any order. Of equal keys the last counts.
-- A promise rests on this.
use Rattle.std.specs.Prelude.{ℕ, Bool, true, false, ◌&&◌, ◌||◌, nat_eq, List, Option, Some, None, is_some}
use Rattle.std.specs.Bool.{beq}
use Rattle.std.specs.Cmp.Lexicographic.{pointwise}
use Rattle.std.specs.declared.cmp.Ordering.{Ordering}
use Rattle.std.specs.declared.cmp.Ordering.TheVariants.{Equal}
use Rattle.json5_grammar.specs.Language.Numbers.{Number, whole, decimal, Decimal}
use Rattle.json5_types.specs.ValueMeanings.{Datum, null, boolean, number, text, array, object, Items, no_item, item, Fields, no_field, field}
use Rattle.json5_types.specs.ValueLookups.{last_named}
use Rattle.json5_types.specs.ValueEquality.{number_eq}
use Rattle.json5_types.specs.NumberDecimals.{decimal_eq}
use Rattle.json5_numbers.specs.NumberTexts.{decimal_of}
use Rattle.json5_numbers.specs.Orders.{decimal_cmp}

-- ---- numbers

abbrev pub is_equal : Option Ordering → Bool
is_equal (Some Equal) = true
is_equal _ = false

-- with the same value: -0 is 0; not-a-number is itself
abbrev pub same_decimals : Decimal → Decimal → Bool
same_decimals d f = decimal_eq d f || is_equal (decimal_cmp d f)

abbrev pub same_number : Number → Number → Bool
same_number (whole z) (whole w) = number_eq (whole z) (whole w)
same_number (whole z) (decimal f) = same_decimals (decimal_of (whole z)) f
same_number (decimal d) (whole w) = same_decimals (decimal_of (whole w)) d
same_number (decimal d) (decimal f) = same_decimals d f

-- ---- members

abbrev pub is_named : List ℕ → Fields → Bool
is_named name fs = is_some (last_named name fs)

abbrev pub names_within : Fields → Fields → Bool
names_within no_field gs = true
names_within (field u x fs) gs = is_named u gs && names_within fs gs

abbrev pub is_some_and : (Datum → Bool) → Option Datum → Bool
is_some_and p None = false
is_some_and p (Some x) = p x

-- ---- values

abbrev mutual
  pub same_datum : Datum → Datum → Bool
  same_datum null null = true
  same_datum (boolean a) (boolean b) = beq a b
  same_datum (number m) (number n) = same_number m n
  same_datum (text u) (text v) = pointwise nat_eq u v
  same_datum (array xs) (array ys) = same_items xs ys
  same_datum (object fs) (object gs) = names_within gs fs && has_fields fs gs
  same_datum _ _ = false

  -- one by one
  pub same_items : Items → Items → Bool
  same_items no_item no_item = true
  same_items (item x xs) (item y ys) = same_datum x y && same_items xs ys
  same_items _ _ = false

  -- each is among the others, with an equal value; those with equal keys but the last are passed over
  pub has_fields : Fields → Fields → Bool
  has_fields no_field gs = true
  has_fields (field u x fs) gs = (is_named u fs || is_some_and (same_datum x) (last_named u gs)) && has_fields fs gs

-- ---- private clauses alone cite these

abbrev pub has_field : List ℕ → Datum → Fields → Fields → Bool
has_field u x fs gs = is_named u fs || is_some_and (same_datum x) (last_named u gs)

abbrev pub same_fields : Fields → Fields → Bool
same_fields fs gs = names_within gs fs && has_fields fs gs
