-- How a part of a pointer is compared with a key, and where it leads. Private clauses and proofs alone cite it.
-- Private.
use Rattle.std.specs.Prelude.{◌≡◌, ◌<◌, ℕ, List, ◌++◌, false, nat_eq, length, take, slice_index_or, Option, None, Some, MatchOption, String}
use Rattle.std.specs.declared.alloc.Global.{Global}
use Rattle.std.specs.Borrow.{Bor}
use Rattle.std.specs.Cmp.Lexicographic.{pointwise}
use Rattle.json5_types.specs.declared.value.Value.{Value}
use Rattle.json5_types.specs.ValueMeanings.{value_of, fields_view}
use Rattle.json5_types.specs.Pointers.{escaped_byte, member_written}

-- the byte as it is written is in front, and this follows it
abbrev pub StripsEscaped : ℕ → List ℕ → Option (Bor (List ℕ)) → Type 0
StripsEscaped c part found = MatchOption found (pointwise nat_eq (take (length (escaped_byte c)) part) (escaped_byte c) ≡ false) (λ rest. part ≡ escaped_byte c ++ rest.now)

-- the i-th member has what the part leads to
pub record IsWrittenLast (part : List ℕ) (fs : List (String Global × Value)) (i : ℕ) : Type 0 where
  pub within : i < length fs
  pub leads : (f : String Global × Value) → f ≡ slice_index_or fs i f → member_written part (fields_view fs) ≡ Some (value_of f.1)

abbrev pub FindsWritten : List ℕ → List (String Global × Value) → Option ℕ → Type 0
FindsWritten part fs found = MatchOption found (member_written part (fields_view fs) ≡ None) (IsWrittenLast part fs)
