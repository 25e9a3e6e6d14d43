-- What a value feeds a hasher: its kind, and what it holds. What a whole number feeds is the hash of its type.
-- A promise rests on this.
use Rattle.std.specs.Prelude.{◌≡◌, true, [], ◌++◌, ℤ}
use Rattle.std.proofs.Common.{ap}
use Rattle.std.specs.Hash as fed
use Rattle.std.specs.Str.{encode_utf8_all}
use Rattle.json5_grammar.specs.Language.Numbers.{Number, whole, decimal}
use Rattle.json5_types.specs.declared.value.Value.{Value}
use Rattle.json5_types.specs.NumberDecimals.{decimal_hashed}
use Rattle.json5_types.specs.ValueMeanings.{Datum, null, boolean, number, text, array, object, Items, no_item, item, Fields, no_field, field, value_of}
use Rattle.json5_types.specs.ValueEquality.{datum_eq, datum_Decides}
use Rattle.json5_types.specs.ValueKinds.{items_len, fields_len}

module _ (whole_fed : ℤ → fed.HashWrites) where
  abbrev pub number_fed : Number → fed.HashWrites
  number_fed (whole z) = fed.u8 2 ++ whole_fed z
  number_fed (decimal d) = fed.u8 3 ++ decimal_hashed d

  abbrev mutual
    pub datum_fed : Datum → fed.HashWrites
    datum_fed null = fed.u8 0
    datum_fed (boolean b) = fed.u8 1 ++ fed.bool b
    datum_fed (number n) = number_fed n
    datum_fed (text u) = fed.u8 4 ++ fed.str (encode_utf8_all u)
    datum_fed (array xs) = fed.u8 5 ++ (fed.usize (items_len xs) ++ each_fed xs)
    datum_fed (object fs) = fed.u8 6 ++ (fed.usize (fields_len fs) ++ members_fed fs)

    pub each_fed : Items → fed.HashWrites
    each_fed no_item = []
    each_fed (item x xs) = datum_fed x ++ each_fed xs

    pub members_fed : Fields → fed.HashWrites
    members_fed no_field = []
    members_fed (field u x fs) = fed.str (encode_utf8_all u) ++ (datum_fed x ++ members_fed fs)

  -- their number, and each
  abbrev pub items_fed : Items → fed.HashWrites
  items_fed xs = fed.usize (items_len xs) ++ each_fed xs

  abbrev pub fields_fed : Fields → fed.HashWrites
  fields_fed fs = fed.usize (fields_len fs) ++ members_fed fs

-- equal values are hashed alike
pub values_alike : (whole_fed : ℤ → fed.HashWrites) (x y : Value) → datum_eq (value_of x) (value_of y) ≡ true → datum_fed whole_fed (value_of x) ≡ datum_fed whole_fed (value_of y)
values_alike whole_fed x y h = ap (datum_fed whole_fed) ((datum_Decides (value_of x) (value_of y)).0 h)
