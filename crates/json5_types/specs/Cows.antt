-- What contracts see of a text that may be borrowed.
-- A promise rests on this.
use Rattle.std.specs.Prelude.{ℕ, List, Bool, true, false, string_bytes}
use Rattle.json5_types.specs.declared.cow_str.CowStr.{CowStr}
use Rattle.json5_types.specs.declared.cow_str.CowStr.TheVariants as cow

-- the text's bytes
abbrev pub cow_bytes : CowStr → List ℕ
cow_bytes (cow.Borrowed text) = text.now
cow_bytes (cow.Owned text) = string_bytes text

abbrev pub is_borrowed : CowStr → Bool
is_borrowed (cow.Borrowed text) = true
is_borrowed (cow.Owned text) = false
