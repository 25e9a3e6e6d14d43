-- A value beside the TOML data that it has.
use Rattle.std.proofs.Common.{◌≡◌, ℕ, List, [], ◌∷◌, ◌++◌, map, refl, ap, ◌∙◌, sym, String, string_bytes, false}
use Rattle.std.specs.declared.alloc.Global.{Global}
use Rattle.std.specs.Str.{chars, encode_utf8_all}
use Rattle.std.proofs.lemmas.Str.{encodes-chars, IsUtf8-string_bytes}
use Rattle.json5_types.specs.declared.value.Value.{Value}
use Rattle.json5_types.specs.declared.value.Value as value
use Rattle.json5_types.specs.ValueMeanings.{value_of, items_view, fields_view}
use Rattle.json5_types.proofs.ValuesCompared.{view-String}
use Rattle.toml.specs.Data as toml
use Rattle.toml.specs.View as view
use Rattle.toml.specs.declared.value.Value as tomls
use Rattle.toml.proofs.Views.{with_last}
use Rattle.json5_convert.specs.Toml.{data_of, data_items, data_members, undated, undated_items, undated_members}

-- a string is its bytes
pub data_of-String : (s : String Global) → data_of false (value_of (value.String s)) ≡ toml.string (string_bytes s)
data_of-String s = ap (data_of false) (view-String s) ∙ ap toml.string (encodes-chars (string_bytes s) (IsUtf8-string_bytes s))

abbrev pub data_of-value : Value → toml.Data
data_of-value v = data_of false (value_of v)

abbrev pub undated_view : tomls.Value → toml.Data
undated_view d = undated (view.view d)

data_items-map : (vs : List Value) → data_items false (items_view vs) ≡ view.items_of (map data_of-value vs)
data_items-map [] = refl
data_items-map (v ∷ vs) = ap (toml.item (data_of-value v)) (data_items-map vs)

undated_items-map : (ds : List tomls.Value) → undated_items (view.items_view ds) ≡ view.items_of (map undated_view ds)
undated_items-map [] = refl
undated_items-map (d ∷ ds) = ap (toml.item (undated_view d)) (undated_items-map ds)

-- elements that have the same data one by one
pub same_items : (vs : List Value) (ds : List tomls.Value) → map data_of-value vs ≡ map undated_view ds → data_items false (items_view vs) ≡ undated_items (view.items_view ds)
same_items vs ds e = data_items-map vs ∙ ap view.items_of e ∙ sym (undated_items-map ds)

-- one member more
pub data_members-last : (fs : List (String Global × Value)) (k : String Global) (v : Value)
    → data_members false (fields_view (fs ++ (k, v) ∷ [])) ≡ with_last (data_members false (fields_view fs)) (string_bytes k) (data_of-value v)
data_members-last [] k v = ap (λ u. toml.member u (data_of-value v) toml.no_members) (encodes-chars (string_bytes k) (IsUtf8-string_bytes k))
data_members-last (f ∷ fs) k v = ap (toml.member (encode_utf8_all (chars (string_bytes f.0))) (data_of-value f.1)) (data_members-last fs k v)

pub undated_members-last : (ms : toml.Members) (k : List ℕ) (d : toml.Data) → undated_members (with_last ms k d) ≡ with_last (undated_members ms) k (undated d)
undated_members-last toml.no_members k d = refl
undated_members-last (toml.member l e ms) k d = ap (toml.member l (undated e)) (undated_members-last ms k d)

map-last : {A B : Type 0} (f : A → B) (xs : List A) (x : A) → map f (xs ++ x ∷ []) ≡ map f xs ++ f x ∷ []
map-last f [] x = refl
map-last f (y ∷ xs) x = ap (λ t. f y ∷ t) (map-last f xs x)

-- one more on both sides
pub one_more : {A B C : Type 0} (f : A → C) (g : B → C) (xs : List A) (ys : List B) (x : A) (y : B) → map f xs ≡ map g ys → f x ≡ g y → map f (xs ++ x ∷ []) ≡ map g (ys ++ y ∷ [])
one_more f g xs ys x y same e = map-last f xs x ∙ rw (same, e) (sym (map-last g ys y))
