-- Keys as they are written in a pointer, and what a list has at one.
use Rattle.std.proofs.Common.{◌≡◌, ◌∙◌, ◌<◌, ◌+◌, ℕ, zero, suc, Bool, true, false, nat_eq, List, [], ◌∷◌, length, drop, refl, sym, ap, subst, String, string_bytes}
use Rattle.std.specs.Prelude.{Some, None, slice_index_or}
use Rattle.std.specs.declared.alloc.Global.{Global}
use Rattle.std.specs.Str.{chars, encode_utf8_all, IsUtf8}
use Rattle.std.specs.Cmp.Lexicographic.{pointwise}
use Rattle.std.proofs.lemmas.Str.{encodes-chars}
use Rattle.json5_types.specs.declared.value.Value.{Value}
use Rattle.json5_types.specs.ValueMeanings.{Datum, value_of, fields_view}
use Rattle.json5_types.specs.Pointers.{escaped_key, member_written}
use Rattle.json5_types.specs.PointerSteps.{IsWrittenLast}
use Rattle.json5_types.proofs.LookedUp.{from_here}
use Rattle.json5_types.proofs.MembersPlaced.{same_element}

abbrev Member : Type 0
Member = String Global × Value

-- ---- how it is found, from the last member on

abbrev IsWritten : List ℕ → Member → Bool → Type 0
IsWritten part f b = pointwise nat_eq (escaped_key (encode_utf8_all (chars (string_bytes f.0)))) part ≡ b

later_written : (part : List ℕ) (fs : List Member) (i : ℕ) (x : Datum) → member_written part (fields_view (drop i fs)) ≡ Some x → member_written part (fields_view fs) ≡ Some x
later_written part fs zero x h = h
later_written part [] (suc i) x h = h
later_written part (g ∷ gs) (suc i) x h = rw (later_written part gs i x h) refl

pub written_there : (part : List ℕ) (fs : List Member) (i n : ℕ) (f : Member) → i + 1 ≡ n → i < length fs → f ≡ slice_index_or fs i f → member_written part (fields_view (drop n fs)) ≡ None → IsWritten part f true → IsWrittenLast part fs i
written_there part fs i n f e h is none here =
    let rest = subst (λ k. member_written part (fields_view (drop k fs)) ≡ None) (sym e) none in
    let found = later_written part fs i (value_of f.1) (rw (from_here fs i f h is, rest, here) refl) in
    record { within = h; leads = λ g same. found ∙ ap (λ m. Some (value_of m.1)) (is ∙ same_element fs i f g h ∙ sym same) }

pub passed_written : (part : List ℕ) (fs : List Member) (i n : ℕ) (f : Member) → i + 1 ≡ n → i < length fs → f ≡ slice_index_or fs i f → member_written part (fields_view (drop n fs)) ≡ None → IsWritten part f false
    → member_written part (fields_view (drop i fs)) ≡ None
passed_written part fs i n f e h is none other =
    let rest = subst (λ k. member_written part (fields_view (drop k fs)) ≡ None) (sym e) none in
    rw (from_here fs i f h is, rest, other) refl

-- the test of the key's bytes is that of its characters
pub key_test : (name part bytes : List ℕ) (key : String Global) (p q : Bool) → IsUtf8 name → name ≡ string_bytes key → bytes ≡ part → p ≡ pointwise nat_eq (escaped_key name) bytes → p ≡ q
    → pointwise nat_eq (escaped_key (encode_utf8_all (chars (string_bytes key)))) part ≡ q
key_test name part bytes key p q u same one test is =
    let back : encode_utf8_all (chars (string_bytes key)) ≡ name = ap (λ b. encode_utf8_all (chars b)) (sym same) ∙ encodes-chars name u in
    rw back (ap (pointwise nat_eq (escaped_key name)) (sym one) ∙ sym test ∙ is)
