-- What can be written: brackets within a room, and numbers that the spelling has. Private clauses and proofs alone cite it.
-- Private.
use Rattle.std.specs.Prelude.{◌≡◌, ℕ, suc, Bool, true, false, ◌&&◌, nat_le, Option, None, Some}
use Rattle.json5_types.specs.ValueLookups.{datum_depth}
use Rattle.json5_grammar.specs.Language.Numbers.{whole, decimal}
use Rattle.json5_types.specs.ValueMeanings.{Datum, null, boolean, number, text, array, object, Items, no_item, item}
use Rattle.json5_styles.specs.JsonTexts.{is_json}
use Rattle.json5_styles.specs.declared.layout.Spelling.{Spelling}
use Rattle.json5_styles.specs.declared.layout.Spelling.TheVariants as spelling

-- JSON5 has each number
abbrev pub is_spelled : Spelling → Bool → Bool
is_spelled spelling.Json5 json = true
is_spelled spelling.Json json = json

-- so many brackets are within the room, if they are counted
abbrev pub is_within : Option ℕ → ℕ → Bool
is_within None depth = true
is_within (Some room) depth = nat_le depth room

abbrev pub is_writable : Spelling → Option ℕ → Datum → Bool
is_writable s room x = is_within room (datum_depth x) && is_spelled s (is_json x)

-- there is no room for one more bracket
abbrev pub IsFull : Option ℕ → Type 0
IsFull room = room ≡ Some 0

-- what is left of the room within one more bracket
abbrev pub IsInside : Option ℕ → Option ℕ → Type 0
IsInside room left = (depth : ℕ) → is_within room (suc depth) ≡ is_within left depth

-- no bracket is in it, and no decimal
abbrev pub is_plain : Datum → Bool
is_plain null = true
is_plain (boolean b) = true
is_plain (number (whole z)) = true
is_plain (number (decimal d)) = false
is_plain (text u) = true
is_plain (array xs) = false
is_plain (object fs) = false

abbrev pub items_are_plain : Items → Bool
items_are_plain no_item = true
items_are_plain (item x xs) = is_plain x && items_are_plain xs
