use Rattle.std.proofs.Common.{◌≡◌, ◌++◌, List, map, take, false}
use Rattle.json5_types.specs.ValueMeanings.{fields_view}
use Rattle.toml.specs.View.{members_view}
use Rattle.toml.proofs.Views.{Entry}
use Rattle.json5_convert.specs.Toml.{data_members, undated_members}
use Rattle.json5_convert.proofs.TomlParts.{data_of-value, undated_view}
use Rattle.json5_convert.proofs.toml_values.+value.Given as goal

-- those that were read have the data of those that were taken
abbrev pub invariant-fields_in-loop-key : goal.invariant-fields_in-loop-key
invariant-fields_in-loop-key l = (done : List Entry) × (l.table.entries ≡ done ++ l.key-iterator) × (data_members false (fields_view l.fields.items) ≡ undated_members (members_view done))

abbrev pub invariant-items_in-loop-item : goal.invariant-items_in-loop-item
invariant-items_in-loop-item l = map data_of-value l.values.items ≡ map undated_view (take l.item-index l.items)
