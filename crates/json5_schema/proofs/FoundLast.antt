-- The last member with a key, looked for from the end on.
use Rattle.std.proofs.Common.{◌≡◌, ◌∙◌, ◌<◌, ◌+◌, ℕ, zero, suc, true, false, nat_eq, get_or, drop, length, List, [], ◌∷◌, Some, None, refl, ap, sym, String, string_bytes}
use Rattle.std.specs.declared.alloc.Global.{Global}
use Rattle.std.specs.Str.{chars}
use Rattle.std.specs.Cmp.Lexicographic.{pointwise}
use Rattle.json5_types.specs.declared.value.Value.{Value}
use Rattle.json5_types.specs.ValueMeanings.{Datum, value_of, fields_view}
use Rattle.json5_types.specs.ValueLookups.{last_named}
use Rattle.json5_types.proofs.LookedUp.{from_here}

abbrev Named : Type 0
Named = String Global × Value

-- what is found from the i-th on is found
found_from : (key : List ℕ) (ms : List Named) (i : ℕ) (x : Datum) → last_named key (fields_view (drop i ms)) ≡ Some x → last_named key (fields_view ms) ≡ Some x
found_from key ms zero x e = e
found_from key [] (suc i) x e = e
found_from key (f ∷ ms) (suc i) x e = rw (found_from key ms i x e) refl

module _ (key : List ℕ) (ms : List Named) (i n : ℕ) (f : Named) (next : i + 1 ≡ n) (within : i < length ms) (is : f ≡ get_or ms i f) (none : last_named key (fields_view (drop n ms)) ≡ None) where
  here : drop i ms ≡ f ∷ drop n ms
  here = from_here ms i f within is ∙ ap (λ m. f ∷ drop m ms) next

  pub last_here : pointwise nat_eq (chars (string_bytes f.0)) key ≡ true → Some (value_of f.1) ≡ last_named key (fields_view ms)
  last_here same =
      let found : last_named key (fields_view (drop i ms)) ≡ Some (value_of f.1) = rw (here, none, same) refl in
      sym (found_from key ms i (value_of f.1) found)

  pub none_here : pointwise nat_eq (chars (string_bytes f.0)) key ≡ false → last_named key (fields_view (drop i ms)) ≡ None
  none_here other = rw (here, none, other) refl
