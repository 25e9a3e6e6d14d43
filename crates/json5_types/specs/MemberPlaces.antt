-- The place of the last member with a key. Private clauses and proofs alone cite it.
-- Private.
use Rattle.std.specs.Prelude.{◌≡◌, ◌<◌, ℕ, suc, true, nat_eq, List, length, drop, slice_index_or, Option, None, option_map, MatchOption, Result, Ok, Err, String, string_bytes}
use Rattle.std.specs.declared.alloc.Global.{Global}
use Rattle.std.specs.Str.{chars}
use Rattle.std.specs.Cmp.Lexicographic.{pointwise}
use Rattle.json5_types.specs.declared.error.Error.{Error}
use Rattle.json5_types.specs.declared.value.Value.{Value}
use Rattle.json5_types.specs.Errors.{LacksMemory}
use Rattle.json5_types.specs.ValueMeanings.{Datum, value_of, fields_view}
use Rattle.json5_types.specs.ValueLookups.{last_named}
use Rattle.json5_types.specs.ValueChanges.{put_named}

-- the i-th member has the key, and none after it does
pub record IsLastNamed (key : List ℕ) (fs : List (String Global × Value)) (i : ℕ) : Type 0 where
  pub within : i < length fs
  pub named : (f : String Global × Value) → f ≡ slice_index_or fs i f → pointwise nat_eq (chars (string_bytes f.0)) key ≡ true
  pub last : last_named key (fields_view (drop (suc i) fs)) ≡ None

abbrev pub FindsLast : List ℕ → List (String Global × Value) → Option ℕ → Type 0
FindsLast key fs found = MatchOption found (last_named key (fields_view fs) ≡ None) (IsLastNamed key fs)

-- the value is put there, and the one that was there is returned; if memory is refused the members stay
abbrev pub PutsMember : List ℕ → Datum → List (String Global × Value) → Result (Option Value) Error → List (String Global × Value) → Type 0
PutsMember key y old (Ok found) new = (fields_view new ≡ put_named key y (fields_view old)) × (option_map value_of found ≡ last_named key (fields_view old))
PutsMember key y old (Err e) new = (new ≡ old) × LacksMemory e
