use Rattle.std.proofs.Common.{◌≡◌, map, take, drop}
use Rattle.json5_types.specs.ValueMeanings.{items_view, fields_view}
use Rattle.toml.specs.Data as toml
use Rattle.toml.specs.View.{view, members_view}
use Rattle.json5_convert.specs.Toml.{data_members, ordered_among, AreToml, AreTomlAmong}
use Rattle.json5_convert.proofs.TomlHeld.{ordered_part}
use Rattle.json5_convert.proofs.toml_texts.+part.Given as goal

-- TOML has the elements so far, and has all if it has those that are left
abbrev pub invariant-array_in-loop-index : goal.invariant-array_in-loop-index
invariant-array_in-loop-index l =
    (map view l.array.items ≡ map (ordered_part l.dates) (take l.index l.items))
    × (AreToml l.dates (items_view (drop l.index l.items)) → AreToml l.dates (items_view l.items))
    × (AreToml l.dates (items_view l.items) → AreToml l.dates (items_view (drop l.index l.items)))

-- the same of the members
abbrev pub invariant-table_in-loop-key : goal.invariant-table_in-loop-key
invariant-table_in-loop-key l =
    let rest = fields_view (drop l.key-index l.fields) in
    let all = fields_view l.fields in
    let done = members_view l.table.entries in
    (ordered_among done (data_members l.dates rest) ≡ ordered_among toml.no_members (data_members l.dates all))
    × (AreTomlAmong l.dates done rest → AreTomlAmong l.dates toml.no_members all)
    × (AreTomlAmong l.dates toml.no_members all → AreTomlAmong l.dates done rest)
