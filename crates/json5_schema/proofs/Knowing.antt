-- From the keywords of a schema to those of all schemas in it.
use Rattle.std.proofs.Common.{◌≡◌, ◌≤◌, ◌<◌, ◌+◌, ◌∙◌, ℕ, zero, suc, true, List, [], ◌∷◌, length, drop, get_or, None, Result, Ok, Err, IfOk, String, inl, inr, refl, sym, ap, arith, string_bytes}
use Rattle.std.specs.declared.alloc.Global.{Global}
use Rattle.std.specs.Str.{chars, IsUtf8, encode_utf8_all}
use Rattle.std.proofs.lemmas.Str.{encodes-chars}
use Rattle.std.proofs.lemmas.List.{drop_more}
use Rattle.json5_types.specs.declared.value.Value.{Value}
use Rattle.json5_types.specs.ValueMeanings.{Datum, null, boolean, number, text, array, object, Fields, value_of, items_view, fields_view}
use Rattle.json5_types.specs.ValueLookups.{items_in, fields_in}
use Rattle.json5_schema.specs.Subschemas.{is_known, takes_schema, takes_schemas, takes_named, StandsIn, alone, element, member, Subschema, itself, within, HasKeyword, HasOnlyKeywords, IsElement, IsMember, IsKnownThrough, AllKnownAmong, AllKnownNamed}

abbrev pub AllKnown : Fields → Type 0
AllKnown fs = (u : List ℕ) (a : Datum) → IsMember u a fs → IsKnownThrough (encode_utf8_all u) a

pub map_ok : {T E P Q : Type 0} (r : Result T E) → (P → Q) → IfOk r (λ _. P) → IfOk r (λ _. Q)
map_ok (Ok x) f h = f h
map_ok (Err e) f h = h

-- ---- a schema

known_in : {r s : Datum} → Subschema r s → ((u : List ℕ) (b : Datum) → HasKeyword r u b → IsKnownThrough (encode_utf8_all u) b) → (a : Datum) (name : List ℕ) → HasKeyword s name a → is_known (encode_utf8_all name) ≡ true
known_in (itself r) h a name has = (h name a has).0
known_in (within r b s t u there stands sub) h a name has = (h u b there).1 s stands t a name sub has

keywords_known : (fs : Fields) → AllKnown fs → HasOnlyKeywords (object fs)
keywords_known fs h = λ s a name sub has. known_in sub h a name has

-- what is no object has no keyword
pub none_known : (r : Datum) → fields_in r ≡ None → HasOnlyKeywords r
none_known r e = λ s a name sub has. known_in sub (λ u b there. none r e u b there) a name has
  where
    none : (r : Datum) → fields_in r ≡ None → (u : List ℕ) (b : Datum) → HasKeyword r u b → IsKnownThrough (encode_utf8_all u) b
    none (object fs) e u b there = absurd (cc)
    none null e u b there = absurd there
    none (boolean c) e u b there = absurd there
    none (number n) e u b there = absurd there
    none (text v) e u b there = absurd there
    none (array xs) e u b there = absurd there

-- ---- a keyword

pub through : (w : List ℕ) (a : Datum) → is_known w ≡ true → (takes_schema w ≡ true → HasOnlyKeywords a) → (takes_schemas w ≡ true → AllKnownAmong a) → (takes_named w ≡ true → AllKnownNamed a) → IsKnownThrough w a
through w a k h i j = (k, stands)
  where
    stands : (s : Datum) → StandsIn w a s → HasOnlyKeywords s
    stands s (alone t e) = rw e (h t)
    stands s (element xs t e there) = (rw e at (i t)) s there
    stands s (member u fs t e there) = (rw e at (j t)) u s there

pub none_among : (a : Datum) → items_in a ≡ None → AllKnownAmong a
none_among (array xs) e = absurd (cc)
none_among null e = tt
none_among (boolean c) e = tt
none_among (number n) e = tt
none_among (text v) e = tt
none_among (object fs) e = tt

pub none_named : (a : Datum) → fields_in a ≡ None → AllKnownNamed a
none_named (object fs) e = absurd (cc)
none_named null e = tt
none_named (boolean c) e = tt
none_named (number n) e = tt
none_named (text v) e = tt
none_named (array xs) e = tt

-- ---- the first one, and those after it

-- where nothing is left
pub past_end : {X : Type 0} (xs : List X) (i : ℕ) → length xs ≤ i → drop i xs ≡ []
past_end [] zero h = refl
past_end [] (suc n) h = refl
past_end (x ∷ xs) zero h = absurd (omega (arith, h))
past_end (x ∷ xs) (suc n) h = past_end xs n (omega (arith, h))

pub keywords_done : (xs : List (String Global × Value)) (i : ℕ) → length xs ≤ i → (AllKnown (fields_view (drop i xs)) → AllKnown (fields_view xs)) → HasOnlyKeywords (object (fields_view xs))
keywords_done xs i h all = keywords_known (fields_view xs) (all (rw (past_end xs i h) (λ u a there. absurd there)))

pub each_done : (xs : List Value) (i : ℕ) → length xs ≤ i → (AllKnownAmong (array (items_view (drop i xs))) → AllKnownAmong (array (items_view xs))) → AllKnownAmong (array (items_view xs))
each_done xs i h all = all (rw (past_end xs i h) (λ s there. absurd there))

pub named_done : (xs : List (String Global × Value)) (i : ℕ) → length xs ≤ i → (AllKnownNamed (object (fields_view (drop i xs))) → AllKnownNamed (object (fields_view xs))) → AllKnownNamed (object (fields_view xs))
named_done xs i h all = all (rw (past_end xs i h) (λ u s there. absurd there))

pub first_known : (f : String Global × Value) (w : List ℕ) (fs xs : List (String Global × Value)) → xs ≡ f ∷ fs → w ≡ string_bytes f.0 → IsUtf8 w → IsKnownThrough w (value_of f.1) → AllKnown (fields_view fs) → AllKnown (fields_view xs)
first_known f w fs xs e b utf8 h rest = rw e (λ u a there. one u a there)
  where
    back : encode_utf8_all (chars (string_bytes f.0)) ≡ w
    back = ap (λ (t : List ℕ). encode_utf8_all (chars t)) (sym b) ∙ encodes-chars w utf8

    one : (u : List ℕ) (a : Datum) → IsMember u a (fields_view (f ∷ fs)) → IsKnownThrough (encode_utf8_all u) a
    one u a (inl same) = rw (same.0, same.1, back) h
    one u a (inr later) = rest u a later

pub value_from : (xs : List Value) (i : ℕ) (x : Value) → i < length xs → x ≡ get_or xs i x → drop i xs ≡ x ∷ drop (i + 1) xs
value_from xs i x h is = drop_more xs i x h ∙ ap (λ (y : Value). y ∷ drop (i + 1) xs) (sym is)

pub first_of_each : (x : Value) (ys xs : List Value) → xs ≡ x ∷ ys → HasOnlyKeywords (value_of x) → AllKnownAmong (array (items_view ys)) → AllKnownAmong (array (items_view xs))
first_of_each x ys xs e h rest = rw e (λ s there. one s there)
  where
    one : (s : Datum) → IsElement s (items_view (x ∷ ys)) → HasOnlyKeywords s
    one s (inl same) = rw same h
    one s (inr later) = rest s later

pub first_named : (f : String Global × Value) (fs xs : List (String Global × Value)) → xs ≡ f ∷ fs → HasOnlyKeywords (value_of f.1) → AllKnownNamed (object (fields_view fs)) → AllKnownNamed (object (fields_view xs))
first_named f fs xs e h rest = rw e (λ u s there. one u s there)
  where
    one : (u : List ℕ) (s : Datum) → IsMember u s (fields_view (f ∷ fs)) → HasOnlyKeywords s
    one u s (inl same) = rw same.1 h
    one u s (inr later) = rest u s later
