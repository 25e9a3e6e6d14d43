-- What can be written, of the elements of an array and the members of an object.
use Rattle.std.proofs.Common.{◌≡◌, ◌<◌, ℕ, suc, ◌+◌, max, Bool, true, false, ◌&&◌, List, length, drop, get_or, Option, None, Some, refl, sym, ap, ap₂, ◌∙◌, arith, String}
use Rattle.std.specs.declared.alloc.Global.{Global}
use Rattle.json5_types.specs.declared.value.Value.{Value}
use Rattle.json5_grammar.specs.Language.Numbers as numbers
use Rattle.json5_types.specs.ValueMeanings.{Datum, null, boolean, number, text, array, object, Items, no_item, item, Fields, value_of, items_view, fields_view}
use Rattle.json5_types.specs.ValueLookups.{datum_depth, items_depth, fields_depth}
use Rattle.json5_types.proofs.DeepestInside.{max_within}
use Rattle.json5_write.proofs.ValuesInside.{item_first}
use Rattle.std.specs.Prelude.{MatchOption}
use Rattle.std.specs.Option.{is_some}
use Rattle.std.proofs.lemmas.Bool.{and_parts}
use Rattle.json5_styles.specs.declared.layout.Spelling.{Spelling}
use Rattle.json5_styles.specs.declared.layout.Spelling.TheVariants as spelling
use Rattle.json5_styles.specs.JsonTexts.{is_json, items_are_json, fields_are_json}
use Rattle.json5_styles.specs.Writable.{is_plain, items_are_plain, is_spelled, is_within, is_writable, IsFull, IsInside}

abbrev pub items_writable : Spelling → Option ℕ → Items → Bool
items_writable s left xs = is_within left (items_depth xs) && is_spelled s (items_are_json xs)

abbrev pub fields_writable : Spelling → Option ℕ → Fields → Bool
fields_writable s left fs = is_within left (fields_depth fs) && is_spelled s (fields_are_json fs)

within_both : (left : Option ℕ) (a b : ℕ) → is_within left (max a b) ≡ (is_within left a && is_within left b)
within_both None a b = refl
within_both (Some n) a b = max_within a b n

spelled_both : (s : Spelling) (p q : Bool) → is_spelled s (p && q) ≡ (is_spelled s p && is_spelled s q)
spelled_both spelling.Json5 p q = refl
spelled_both spelling.Json p q = refl

crossed : (a b c d : Bool) → ((a && b) && (c && d)) ≡ ((a && c) && (b && d))
crossed true true c d = refl
crossed true false true d = refl
crossed true false false d = refl
crossed false b c d = refl

both : (s : Spelling) (left : Option ℕ) (a b : ℕ) (p q : Bool) → (is_within left (max a b) && is_spelled s (p && q)) ≡ ((is_within left a && is_spelled s p) && (is_within left b && is_spelled s q))
both s left a b p q = ap₂ (λ x y. x && y) (within_both left a b) (spelled_both s p q) ∙ crossed (is_within left a) (is_within left b) (is_spelled s p) (is_spelled s q)

-- ---- the next one

pub next_item : (s : Spelling) (left : Option ℕ) (vs : List Value) (i : ℕ) (v : Value) → i < length vs → v ≡ get_or vs i v
    → items_writable s left (items_view (drop i vs)) ≡ (is_writable s left (value_of v) && items_writable s left (items_view (drop (i + 1) vs)))
next_item s left vs i v h e =
    ap (λ l. items_writable s left (items_view l)) (item_first vs i v h e)
    ∙ both s left (datum_depth (value_of v)) (items_depth (items_view (drop (i + 1) vs))) (is_json (value_of v)) (items_are_json (items_view (drop (i + 1) vs)))

pub next_field : (s : Spelling) (left : Option ℕ) (fs : List (String Global × Value)) (i : ℕ) (f : String Global × Value) → i < length fs → f ≡ get_or fs i f
    → fields_writable s left (fields_view (drop i fs)) ≡ (is_writable s left (value_of f.1) && fields_writable s left (fields_view (drop (i + 1) fs)))
next_field s left fs i f h e =
    ap (λ l. fields_writable s left (fields_view l)) (item_first fs i f h e)
    ∙ both s left (datum_depth (value_of f.1)) (fields_depth (fields_view (drop (i + 1) fs))) (is_json (value_of f.1)) (fields_are_json (fields_view (drop (i + 1) fs)))

pub kept : (whole b rest : Bool) → whole ≡ (b && rest) → b ≡ true → rest ≡ whole
kept whole true rest e h = sym e
kept whole false rest e h = absurd (cc)

pub lost : (whole b rest : Bool) → whole ≡ (b && rest) → b ≡ false → whole ≡ false
lost whole true rest e h = absurd (cc)
lost whole false rest e h = e

pub none_left : (s : Spelling) (left : Option ℕ) → (is_within left 0 && is_spelled s true) ≡ true
none_left spelling.Json5 None = refl
none_left spelling.Json5 (Some n) = grind arith
none_left spelling.Json None = refl
none_left spelling.Json (Some n) = grind arith

-- a bracket takes one of the room
pub one_more : (room left : Option ℕ) (depth : ℕ) (b : Bool) → IsInside room left → (is_within room (suc depth) && b) ≡ (is_within left depth && b)
one_more room left depth b h = ap (λ w. w && b) (h depth)

-- ---- plain ones

pub next_plain : (vs : List Value) (i : ℕ) (v : Value) → i < length vs → v ≡ get_or vs i v → items_are_plain (items_view (drop i vs)) ≡ (is_plain (value_of v) && items_are_plain (items_view (drop (i + 1) vs)))
next_plain vs i v h e = ap (λ l. items_are_plain (items_view l)) (item_first vs i v h e)

flat : (x : Datum) → is_plain x ≡ true → (datum_depth x ≡ 0) × (is_json x ≡ true)
flat null h = (refl, refl)
flat (boolean b) h = (refl, refl)
flat (number (numbers.whole z)) h = (refl, refl)
flat (number (numbers.decimal d)) h = absurd (cc)
flat (text u) h = (refl, refl)
flat (array xs) h = absurd (cc)
flat (object fs) h = absurd (cc)

all_flat : (xs : Items) → items_are_plain xs ≡ true → (items_depth xs ≡ 0) × (items_are_json xs ≡ true)
all_flat no_item h = (refl, refl)
all_flat (item x xs) h =
    let both = and_parts (is_plain x) (items_are_plain xs) h in
    let first = flat x both.0 in
    let rest = all_flat xs both.1 in
    (ap₂ max first.0 rest.0, ap₂ (λ a b. a && b) first.1 rest.1)

inside_one : (s : Spelling) (room : Option ℕ) (o : Option (Option ℕ)) → MatchOption o (IsFull room) (IsInside room) → is_some o ≡ (is_within room 1 && is_spelled s true)
inside_one s room None full = sym (ap (λ r. is_within r 1 && is_spelled s true) full)
inside_one s room (Some left) fits = sym (one_more room left 0 (is_spelled s true) fits ∙ none_left s left)

-- an array of them takes one bracket
pub plain_array : (s : Spelling) (room : Option ℕ) (o : Option (Option ℕ)) (xs : Items) → MatchOption o (IsFull room) (IsInside room) → items_are_plain xs ≡ true → is_some o ≡ is_writable s room (array xs)
plain_array s room o xs h plain =
    let all = all_flat xs plain in
    inside_one s room o h ∙ sym (ap₂ (λ d j. is_within room (suc d) && is_spelled s j) all.0 all.1)
