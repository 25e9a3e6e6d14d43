-- The tree of a value of any kind.
-- A promise rests on this.
use Rattle.std.specs.Prelude.{ℕ, String, string_bytes}
use Rattle.std.specs.declared.alloc.Global.{Global}
use Rattle.std.specs.Str.{chars}
use Rattle.json5_types.specs.declared.value.Value.{Value}
use Rattle.json5_types.specs.ValueMeanings as datum
use Rattle.json5_types.specs.ValueMeanings.{Datum, Items, no_item, item, no_field, field, value_of}
use Rattle.json5_write.specs.Out.{Out, text_within}
use Rattle.json5_write.specs.WrittenTrees as written
use Rattle.json5_write.specs.WrittenTrees.{WrittenKey, Written, Elements, Fields, named, null, boolean, number, text, array, object, no_element, element}

abbrev mutual
  pub datum_tree : Datum → Written
  datum_tree datum.null = null
  datum_tree (datum.boolean b) = boolean b
  datum_tree (datum.number n) = number n
  datum_tree (datum.text u) = text u
  datum_tree (datum.array xs) = array (items_tree xs)
  datum_tree (datum.object fs) = object (fields_tree fs)

  pub items_tree : Items → Elements
  items_tree no_item = no_element
  items_tree (item x xs) = element (datum_tree x) (items_tree xs)

  pub fields_tree : datum.Fields → Fields
  fields_tree no_field = written.no_field
  fields_tree (field u x fs) = written.field (named u) (datum_tree x) (fields_tree fs)

abbrev pub value_tree : Value → Written
value_tree v = datum_tree (value_of v)

-- the output of a value of any kind, within a limit
abbrev pub value_text : ℕ → Value → Out
value_text limit v = text_within limit (value_tree v)

-- the key that is this string
abbrev pub key_of_string : String Global → WrittenKey
key_of_string s = named (chars (string_bytes s))
