-- Lists of names.
-- A promise rests on this.
use Rattle.std.specs.declared.alloc.Global.{Global}
use Rattle.std.specs.Prelude.{ℕ, List, map, String, string_bytes}

-- the names of strings
abbrev pub names_of : List (String Global) → List (List ℕ)
names_of = map string_bytes
