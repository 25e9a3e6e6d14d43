-- What the elements and the members of a value feed a hasher.
use Rattle.std.proofs.Common.{◌≡◌, ◌<◌, ◌+◌, ℕ, List, ◌++◌, ℤ, drop, get_or, length, refl, String, string_bytes}
use Rattle.std.specs.declared.alloc.Global.{Global}
use Rattle.std.specs.Hash as fed
use Rattle.std.specs.Hash.{fed_then}
use Rattle.std.specs.List.{fold}
use Rattle.std.specs.Str.{chars, encode_utf8_all}
use denote.Param.{read}
use Rattle.std.specs.declared.hash.Hash.Ghosts.{hash_input}
use Rattle.json5_types.specs.declared.whole.Whole.{Whole}
use Rattle.json5_types.specs.contracts.whole.WholeHash.TheImpl.{ghosts}
use Rattle.json5_types.specs.declared.value.Value.{Value}
use Rattle.json5_types.specs.ValueMeanings.{value_of, items_view, fields_view}
use Rattle.json5_types.specs.ValueHashes.{datum_fed, each_fed, members_fed, items_fed, fields_fed}
use Rattle.json5_types.proofs.ValuesCounted.{items_counted, fields_counted}
use Rattle.json5_types.proofs.LookedUp.{from_here}

-- what a whole number feeds
abbrev pub whole_fed : ℤ → fed.HashWrites
whole_fed = read (hash_input {X-1 = Whole}) ghosts

abbrev Member : Type 0
Member = String Global × Value

module _ {S : Type 0} (write : S → List ℕ → S) where
  pub items_begun : (start now : S) (vs : List Value) (n : ℕ) → n ≡ length vs → now ≡ fold write start (fed.usize n) → fold write now (each_fed whole_fed (items_view vs)) ≡ fold write start (items_fed whole_fed (items_view vs))
  items_begun start now vs n counted is = rw (items_counted vs, ← counted) (fed_then write start now _ (fed.usize n) (each_fed whole_fed (items_view vs)) is refl)

  pub fields_begun : (start now : S) (fs : List Member) (n : ℕ) → n ≡ length fs → now ≡ fold write start (fed.usize n) → fold write now (members_fed whole_fed (fields_view fs)) ≡ fold write start (fields_fed whole_fed (fields_view fs))
  fields_begun start now fs n counted is = rw (fields_counted fs, ← counted) (fed_then write start now _ (fed.usize n) (members_fed whole_fed (fields_view fs)) is refl)

  pub member_fed : (now named next : S) (fs : List Member) (i : ℕ) (f : Member) → i < length fs → f ≡ get_or fs i f → named ≡ fold write now (fed.str (encode_utf8_all (chars (string_bytes f.0)))) → next ≡ fold write named (datum_fed whole_fed (value_of f.1))
      → fold write next (members_fed whole_fed (fields_view (drop (i + 1) fs))) ≡ fold write now (members_fed whole_fed (fields_view (drop i fs)))
  member_fed now named next fs i f h here key is =
      rw (from_here fs i f h here) (fed_then write now named _ (fed.str (encode_utf8_all (chars (string_bytes f.0)))) (datum_fed whole_fed (value_of f.1) ++ members_fed whole_fed (fields_view (drop (i + 1) fs))) key
      (fed_then write named next _ (datum_fed whole_fed (value_of f.1)) (members_fed whole_fed (fields_view (drop (i + 1) fs))) is refl))
