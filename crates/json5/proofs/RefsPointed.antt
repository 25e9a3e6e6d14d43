-- What a pointer leads to in a borrowed value.
use Rattle.std.proofs.Common.{◌≡◌, ◌∙◌, ℕ, Bool, nat_eq, true, false, List, ◌∷◌, Option, Some, sym, ap}
use Rattle.std.specs.Str.{chars, encode_utf8_all, IsUtf8}
use Rattle.std.specs.Cmp.Lexicographic.{pointwise}
use Rattle.std.proofs.lemmas.Str.{encodes-chars}
use Rattle.json5_types.specs.Cows.{cow_bytes}
use Rattle.json5_types.specs.Pointers.{escaped_key, member_written}
use Rattle.json5_types.specs.ValueLookups.{or_else}
use Rattle.json5_types.specs.ValueMeanings.{Datum}
use Rattle.json5_types.proofs.LookedUp.{found_here, found_before}
use Rattle.json5.specs.ValueRefs.{ref_of, members_view}
use Rattle.json5.proofs.RefsFound.{Member}

-- whether the key is written so
abbrev IsWritten : List ℕ → Member → Bool → Type 0
IsWritten part f b = pointwise nat_eq (escaped_key (encode_utf8_all (chars (cow_bytes f.0)))) part ≡ b

pub at_written : (part : List ℕ) (f : Member) (fs xs : List Member) (found : Option Datum) → xs ≡ f ∷ fs → IsWritten part f true
    → or_else (member_written part (members_view xs)) found ≡ or_else (member_written part (members_view fs)) (Some (ref_of f.1))
at_written part f fs xs found x here = rw (x, here) (found_here (member_written part (members_view fs)) found (ref_of f.1))

pub past_written : (part : List ℕ) (f : Member) (fs xs : List Member) (found : Option Datum) → xs ≡ f ∷ fs → IsWritten part f false
    → or_else (member_written part (members_view xs)) found ≡ or_else (member_written part (members_view fs)) found
past_written part f fs xs found x other = rw (x, other) (found_before (member_written part (members_view fs)) found)

-- the test of the key's bytes is that of its characters
pub written_key : (name part bytes : List ℕ) (f : Member) (p q : Bool) → IsUtf8 name → name ≡ cow_bytes f.0 → bytes ≡ part → p ≡ pointwise nat_eq (escaped_key name) bytes → p ≡ q → IsWritten part f q
written_key name part bytes f p q u same one test is =
    let back : encode_utf8_all (chars (cow_bytes f.0)) ≡ name = ap (λ b. encode_utf8_all (chars b)) (sym same) ∙ encodes-chars name u in
    rw back (ap (pointwise nat_eq (escaped_key name)) (sym one) ∙ sym test ∙ is)
