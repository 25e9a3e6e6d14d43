-- Equal values have one form.
use Rattle.std.proofs.Common.{◌≡◌, ◌∙◌, ℕ, Bool, true, false, ◌||◌, if◌then◌else◌, nat_eq, List, [], ◌∷◌, ◌++◌, Option, Some, None, option_map, is_some, unwrap_or, refl, sym, ap, subst, true≢false}
use Rattle.std.specs.Prelude.{cond}
use Rattle.std.specs.Cmp.{booleans_Decides, first_so, second_so}
use Rattle.std.specs.Cmp.Lexicographic.{pointwise, bytes_decides, texts_ties, slice_cmp}
use Rattle.std.specs.FinMap.{insert, entries, get, get-insert, same_map, slice_cmp-IsAntisymmetric, nat_cmp-IsAntisymmetric}
use Rattle.std.specs.Ordering.{eq_by_cmp, nat_cmp}
use Rattle.std.specs.Str.{chars, encode_utf8_all}
use Rattle.std.proofs.lemmas.Cmp.{nat_list_cmp_total}
use Rattle.json5_grammar.specs.Language.Characters.{left_bracket, right_bracket, left_brace, right_brace}
use Rattle.json5_types.specs.ValueMeanings.{Datum, null, boolean, number, text, array, object, Items, no_item, item, Fields, no_field, field}
use Rattle.json5_types.specs.ValueLookups.{or_else, last_named}
use Rattle.json5_numbers.specs.Sameness.{is_named, is_some_and, same_datum, same_items, has_fields, names_within}
use Rattle.json5_schema.specs.CanonicalForms.{Forms, no_forms, form, items_form, members_form, forms_with, IsSound, AreSound, HasSound}
use Rattle.json5_schema.proofs.NumberForms.{one_number}

-- ---- the form of the last member with a name

abbrev form_named : List ℕ → Fields → Option (List ℕ)
form_named q fs = option_map form (last_named q fs)

abbrev Agrees : Datum → Type 0
Agrees x = (y : Datum) → IsSound y → same_datum x y ≡ true → form x ≡ form y

-- what is found is sound
sound_either : (a : Option Datum) (b : Bool) (x : Datum) (y : Datum) → ((z : Datum) → a ≡ Some z → IsSound z) → IsSound x → or_else a (if b then Some x else None) ≡ Some y → IsSound y
sound_either (Some z) b x y f s e = f y e
sound_either None true x y f s e = subst IsSound (some_same x y e) s
  where
    some_same : (x y : Datum) → Some x ≡ Some y → x ≡ y
    some_same x y e = ap (λ o. unwrap_or o x) e
sound_either None false x y f s e = absurd (true≢false (sym (ap is_some e)))

sound_named : (q : List ℕ) (fs : Fields) (y : Datum) → HasSound fs → last_named q fs ≡ Some y → IsSound y
sound_named q no_field y s e = absurd (true≢false (sym (ap is_some e)))
sound_named q (field u x fs) y s e = sound_either (last_named q fs) (pointwise nat_eq u q) x y (λ z f. sound_named q fs z s.2 f) s.1 e

-- what is found where a member with this name, or with another one, comes before others
abbrev before : Bool → Datum → Option Datum → Option Datum
before b x o = or_else o (if b then Some x else None)

-- the first member has the name, and none behind it
here_named : (q u : List ℕ) (x : Datum) (fs gs : Fields) → HasSound gs → Agrees x → last_named q fs ≡ None → u ≡ q → (is_named u fs || is_some_and (same_datum x) (last_named u gs)) ≡ true → Some (form x) ≡ form_named q gs
here_named q u x fs gs t agrees none here h = go (last_named q gs) refl (subst (λ w. (is_named w fs || is_some_and (same_datum x) (last_named w gs)) ≡ true) here h)
  where
    unnamed : (is_named q fs || is_some_and (same_datum x) (last_named q gs)) ≡ is_some_and (same_datum x) (last_named q gs)
    unnamed = ap (λ (o : Option Datum). is_some o || is_some_and (same_datum x) (last_named q gs)) none

    go : (o : Option Datum) → last_named q gs ≡ o → (is_named q fs || is_some_and (same_datum x) (last_named q gs)) ≡ true → Some (form x) ≡ form_named q gs
    go None e k = absurd (true≢false (sym k ∙ unnamed ∙ ap (is_some_and (same_datum x)) e))
    go (Some y) e k = ap Some (agrees y (sound_named q gs y t e) (sym (ap (is_some_and (same_datum x)) e) ∙ sym unnamed ∙ k)) ∙ sym (ap (option_map form) e)

first_kept : (q u : List ℕ) (x : Datum) (fs gs : Fields) → HasSound gs → Agrees x → (is_named q fs ≡ true → form_named q fs ≡ form_named q gs)
    → (is_named u fs || is_some_and (same_datum x) (last_named u gs)) ≡ true → is_named q (field u x fs) ≡ true → form_named q (field u x fs) ≡ form_named q gs
first_kept q u x fs gs t agrees kept h named = go (last_named q fs) refl (pointwise nat_eq u q) refl
  where
    go : (o : Option Datum) → last_named q fs ≡ o → (b : Bool) → pointwise nat_eq u q ≡ b → form_named q (field u x fs) ≡ form_named q gs
    go (Some z) e b f = ap (λ o. option_map form (before (pointwise nat_eq u q) x o)) e ∙ sym (ap (option_map form) e) ∙ kept (ap is_some e)
    go None e true f = ap (λ o. option_map form (before (pointwise nat_eq u q) x o)) e ∙ ap (λ b. option_map form (before b x None)) f ∙ here_named q u x fs gs t agrees e ((bytes_decides u q).0 f) h
    go None e false f = absurd (true≢false (sym named ∙ ap (λ o. is_some (before (pointwise nat_eq u q) x o)) e ∙ ap (λ b. is_some (before b x None)) f))

-- each name of gs is one of fs
within_named : (gs fs : Fields) (q : List ℕ) → names_within gs fs ≡ true → is_named q gs ≡ true → is_named q fs ≡ true
within_named no_field fs q h named = absurd (true≢false (sym named))
within_named (field u x gs) fs q h named = go (within_named gs fs q (second_so (is_named u fs) (names_within gs fs) h)) (last_named q gs) refl (pointwise nat_eq u q) refl
  where
    go : (is_named q gs ≡ true → is_named q fs ≡ true) → (o : Option Datum) → last_named q gs ≡ o → (b : Bool) → pointwise nat_eq u q ≡ b → is_named q fs ≡ true
    go rest (Some z) e b f = rest (ap is_some e)
    go rest None e true f = subst (λ w. is_named w fs ≡ true) ((bytes_decides u q).0 f) (first_so (is_named u fs) (names_within gs fs) h)
    go rest None e false f = absurd (true≢false (sym named ∙ ap (λ o. is_some (before (pointwise nat_eq u q) x o)) e ∙ ap (λ b. is_some (before b x None)) f))

none_found : (o : Option Datum) → is_some o ≡ false → option_map form o ≡ None
none_found None h = refl
none_found (Some x) h = absurd (true≢false h)

all_named : (fs gs : Fields) (q : List ℕ) → (is_named q fs ≡ true → form_named q fs ≡ form_named q gs) → names_within gs fs ≡ true → form_named q fs ≡ form_named q gs
all_named fs gs q kept h = go (is_named q fs) refl (is_named q gs) refl
  where
    go : (a : Bool) → is_named q fs ≡ a → (b : Bool) → is_named q gs ≡ b → form_named q fs ≡ form_named q gs
    go true e b f = kept e
    go false e true f = absurd (true≢false (sym (within_named gs fs q h f) ∙ e))
    go false e false f = none_found (last_named q fs) e ∙ sym (none_found (last_named q gs) f)

-- ---- the same, by the names' bytes

abbrev over : Option (List ℕ) → Option (List ℕ) → Option (List ℕ)
over None o = o
over (Some v) o = Some v

abbrev is_at : List ℕ → List ℕ → Bool
is_at q u = eq_by_cmp (slice_cmp nat_cmp) q (encode_utf8_all u)

abbrev by_bytes : List ℕ → Fields → Option (List ℕ)
by_bytes q no_field = None
by_bytes q (field u x fs) = over (by_bytes q fs) (cond (is_at q u) (Some (form x)) None)

joined : (a : Option (List ℕ)) (b : Bool) (v : List ℕ) (o : Option (List ℕ)) → over a (cond b (Some v) o) ≡ over (over a (cond b (Some v) None)) o
joined (Some z) b v o = refl
joined None true v o = refl
joined None false v o = refl

found_in : (m : Forms) (fs : Fields) (q : List ℕ) → get (forms_with m fs) q ≡ over (by_bytes q fs) (get m q)
found_in m no_field q = refl
found_in m (field u x fs) q =
    found_in (insert m (encode_utf8_all u) (form x)) fs q ∙ ap (over (by_bytes q fs)) (get-insert nat_list_cmp_total m (encode_utf8_all u) (form x) q) ∙ joined (by_bytes q fs) (is_at q u) (form x) (get m q)

-- a name's bytes are compared as its characters are, where the bytes are a text
name_at : (q u : List ℕ) → encode_utf8_all (chars q) ≡ q → chars (encode_utf8_all u) ≡ u → is_at q u ≡ pointwise nat_eq u (chars q)
name_at q u valid name = go (is_at q u) refl (pointwise nat_eq u (chars q)) refl
  where
    go : (a : Bool) → is_at q u ≡ a → (b : Bool) → pointwise nat_eq u (chars q) ≡ b → is_at q u ≡ pointwise nat_eq u (chars q)
    go true e true f = e ∙ sym f
    go false e false f = e ∙ sym f
    go true e false f =
        let bytes : q ≡ encode_utf8_all u = (bytes_decides q (encode_utf8_all u)).0 (texts_ties q (encode_utf8_all u) ∙ e) in
        absurd (true≢false (sym ((bytes_decides u (chars q)).1 (sym (ap chars bytes ∙ name))) ∙ f))
    go false e true f =
        let bytes : q ≡ encode_utf8_all u = sym valid ∙ ap encode_utf8_all (sym ((bytes_decides u (chars q)).0 f)) in
        absurd (true≢false (sym ((bytes_decides q (encode_utf8_all u)).1 bytes) ∙ texts_ties q (encode_utf8_all u) ∙ e))

-- what is no text is no name
no_name : (q u : List ℕ) → pointwise nat_eq (encode_utf8_all (chars q)) q ≡ false → chars (encode_utf8_all u) ≡ u → is_at q u ≡ false
no_name q u other name = go (is_at q u) refl
  where
    go : (a : Bool) → is_at q u ≡ a → is_at q u ≡ false
    go false e = e
    go true e =
        let bytes : q ≡ encode_utf8_all u = (bytes_decides q (encode_utf8_all u)).0 (texts_ties q (encode_utf8_all u) ∙ e) in
        absurd (true≢false (sym ((bytes_decides (encode_utf8_all (chars q)) q).1 (ap encode_utf8_all (ap chars bytes ∙ name) ∙ sym bytes)) ∙ other))

mapped : (a : Option Datum) (b : Bool) (x : Datum) → over (option_map form a) (cond b (Some (form x)) None) ≡ option_map form (before b x a)
mapped (Some z) b x = refl
mapped None true x = refl
mapped None false x = refl

by_name : (q : List ℕ) (fs : Fields) → encode_utf8_all (chars q) ≡ q → HasSound fs → by_bytes q fs ≡ form_named (chars q) fs
by_name q no_field valid s = refl
by_name q (field u x fs) valid s =
    ap (λ o. over o (cond (is_at q u) (Some (form x)) None)) (by_name q fs valid s.2) ∙ ap (λ b. over (form_named (chars q) fs) (cond b (Some (form x)) None)) (name_at q u valid s.0)
    ∙ mapped (last_named (chars q) fs) (pointwise nat_eq u (chars q)) x

by_none : (q : List ℕ) (fs : Fields) → pointwise nat_eq (encode_utf8_all (chars q)) q ≡ false → HasSound fs → by_bytes q fs ≡ None
by_none q no_field other s = refl
by_none q (field u x fs) other s = ap (λ o. over o (cond (is_at q u) (Some (form x)) None)) (by_none q fs other s.2) ∙ ap (λ b. cond b (Some (form x)) None) (no_name q u other s.0)

module _ (fs gs : Fields) (s : HasSound fs) (t : HasSound gs) (same : (q : List ℕ) → form_named q fs ≡ form_named q gs) where
  alike : (q : List ℕ) (b : Bool) → pointwise nat_eq (encode_utf8_all (chars q)) q ≡ b → by_bytes q fs ≡ by_bytes q gs
  alike q true e = let valid = (bytes_decides (encode_utf8_all (chars q)) q).0 e in by_name q fs valid s ∙ same (chars q) ∙ sym (by_name q gs valid t)
  alike q false e = by_none q fs e s ∙ sym (by_none q gs e t)

  one_map : forms_with no_forms fs ≡ forms_with no_forms gs
  one_map =
      same_map nat_list_cmp_total (slice_cmp-IsAntisymmetric nat_cmp-IsAntisymmetric) (forms_with no_forms fs) (forms_with no_forms gs)
      (λ q. found_in no_forms fs q ∙ ap (λ o. over o (get no_forms q)) (alike q (pointwise nat_eq (encode_utf8_all (chars q)) q) refl) ∙ sym (found_in no_forms gs q))

-- ---- all values

abbrev array_form : List ℕ → List ℕ
array_form bytes = left_bracket ∷ (bytes ++ right_bracket ∷ [])

abbrev object_form : Forms → List ℕ
object_form m = left_brace ∷ (members_form (entries m) ++ right_brace ∷ [])

mutual
  pub one_form : (x y : Datum) → IsSound x → IsSound y → same_datum x y ≡ true → form x ≡ form y
  one_form null null s t h = refl
  one_form (boolean a) (boolean b) s t h = ap (λ c. form (boolean c)) ((booleans_Decides a b).0 h)
  one_form (number m) (number n) s t h = one_number m n s t h
  one_form (text u) (text v) s t h = ap (λ w. form (text w)) ((bytes_decides u v).0 h)
  one_form (array xs) (array ys) s t h = ap array_form (one_items xs ys s t h)
  one_form (object fs) (object gs) s t h =
      let within = first_so (names_within gs fs) (has_fields fs gs) h in
      let has = second_so (names_within gs fs) (has_fields fs gs) h in
      ap object_form (one_map fs gs s t (λ q. all_named fs gs q (one_named fs gs s t has q) within))
  one_form _ _ s t h = absurd (true≢false (sym h))

  one_items : (xs ys : Items) → AreSound xs → AreSound ys → same_items xs ys ≡ true → items_form xs ≡ items_form ys
  one_items no_item no_item s t h = refl
  one_items (item x xs) (item y ys) s t h =
      let one = one_form x y s.0 t.0 (first_so (same_datum x y) (same_items xs ys) h) in
      ap (λ l. l ++ items_form xs) one ∙ ap (λ l. form y ++ l) (one_items xs ys s.1 t.1 (second_so (same_datum x y) (same_items xs ys) h))
  one_items _ _ s t h = absurd (true≢false (sym h))

  one_named : (fs gs : Fields) → HasSound fs → HasSound gs → has_fields fs gs ≡ true → (q : List ℕ) → is_named q fs ≡ true → form_named q fs ≡ form_named q gs
  one_named no_field gs s t h q named = absurd (true≢false (sym named))
  one_named (field u x fs) gs s t h q named =
      let here = first_so (is_named u fs || is_some_and (same_datum x) (last_named u gs)) (has_fields fs gs) h in
      let rest = second_so (is_named u fs || is_some_and (same_datum x) (last_named u gs)) (has_fields fs gs) h in
      first_kept q u x fs gs t (λ y r e. one_form x y s.1 r e) (one_named fs gs s.2 t rest q) here named
