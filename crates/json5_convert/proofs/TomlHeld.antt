-- What TOML has of an array and of an object, one part after another.
use Rattle.std.proofs.Common.{◌≡◌, ◌<◌, ℕ, ◌+◌, List, [], ◌∷◌, length, drop, get_or, map, Bool, true, false, is_some, Result, Ok, Err, MatchResult, Ordering, Less, Equal, Greater, Option, Some, None, refl, sym, ap, ◌∙◌, String, string_bytes, option_map}
use Rattle.std.proofs.lemmas.Bool.{false≢true}
use Rattle.std.proofs.lemmas.List.{drop_more}
use Rattle.std.proofs.lemmas.Option.{none-some}
use Rattle.std.proofs.lemmas.Str.{encodes-chars, IsUtf8-string_bytes}
use Rattle.std.specs.declared.alloc.Global.{Global}
use Rattle.std.specs.Str.{chars, encode_utf8_all}
use Rattle.std.specs.Map.{lookup}
use Rattle.std.specs.BTreeMap.{is_at, insert_entry}
use Rattle.std.specs.String.{string_cmp}
use Rattle.std.specs.Ordering.{match_ordering}
use Rattle.json5_types.specs.declared.value.Value.{Value}
use Rattle.json5_types.specs.ValueLookups.{fits}
use Rattle.json5_types.specs.ValueMeanings.{Datum, Fields, value_of, item, field, object, items_view, fields_view}
use Rattle.toml.specs.Data as toml
use Rattle.toml.specs.View as view
use Rattle.toml.specs.declared.value.Value as tomls
use Rattle.toml.proofs.Views.{Entry, view-lookup}
use Rattle.json5_convert.specs.Toml.{data_of, data_items, data_members, put, ordered, ordered_items, ordered_among, IsToml, AreTomlAmong, IsTomlDocument}

front : {A : Type 0} (xs : List A) (i : ℕ) (x : A) → i < length xs → x ≡ get_or xs i x → drop i xs ≡ x ∷ drop (i + 1) xs
front xs i x h at = drop_more xs i x h ∙ ap (λ y. y ∷ drop (i + 1) xs) (sym at)

-- ---- elements

abbrev pub ordered_part : Bool → Value → toml.Data
ordered_part dates v = ordered (data_of dates (value_of v))

pub ordered_items-map : (dates : Bool) (vs : List Value) → ordered_items (data_items dates (items_view vs)) ≡ view.items_of (map (ordered_part dates) vs)
ordered_items-map dates [] = refl
ordered_items-map dates (v ∷ vs) = ap (toml.item (ordered_part dates v)) (ordered_items-map dates vs)

pub next_item : (vs : List Value) (i : ℕ) (v : Value) → i < length vs → v ≡ get_or vs i v → items_view (drop i vs) ≡ item (value_of v) (items_view (drop (i + 1) vs))
next_item vs i v h at = ap items_view (front vs i v h at)

-- ---- members

match_members : (o : Ordering) (a b c : List Entry) → view.members_view (match_ordering o a b c) ≡ match_ordering o (view.members_view a) (view.members_view b) (view.members_view c)
match_members Less a b c = refl
match_members Equal a b c = refl
match_members Greater a b c = refl

-- what is inserted is put at its place
pub members_view-insert : (es : List Entry) (k : String Global) (d : tomls.Value) → view.members_view (insert_entry string_cmp es k d) ≡ put (string_bytes k) (view.view d) (view.members_view es)
members_view-insert [] k d = refl
members_view-insert (e ∷ es) k d = match_members (string_cmp k e.0) _ _ _ ∙ rw (members_view-insert es k d)

abbrev pub Member : Type 0
Member = String Global × Value

pub key_bytes : (k : String Global) → encode_utf8_all (chars (string_bytes k)) ≡ string_bytes k
key_bytes k = encodes-chars (string_bytes k) (IsUtf8-string_bytes k)

pub next_member : (fs : List Member) (i : ℕ) (f : Member) → i < length fs → f ≡ get_or fs i f
    → fields_view (drop i fs) ≡ field (chars (string_bytes f.0)) (value_of f.1) (fields_view (drop (i + 1) fs))
next_member fs i f h at = ap fields_view (front fs i f h at)

-- the members with the next one put among them
pub ordered_next : (dates : Bool) (done : toml.Members) (fs : List Member) (i : ℕ) (f : Member) → i < length fs → f ≡ get_or fs i f
    → ordered_among done (data_members dates (fields_view (drop i fs))) ≡ ordered_among (put (string_bytes f.0) (ordered_part dates f.1) done) (data_members dates (fields_view (drop (i + 1) fs)))
ordered_next dates done fs i f h at = rw (next_member fs i f h at, key_bytes f.0) refl

-- what TOML has of the next member and of those after it
pub held_next : (dates : Bool) (done : toml.Members) (fs : List Member) (i : ℕ) (f : Member) → i < length fs → f ≡ get_or fs i f
    → AreTomlAmong dates done (fields_view (drop i fs)) ≡ (IsToml dates (value_of f.1) × (toml.get_member (string_bytes f.0) done ≡ None) × AreTomlAmong dates (put (string_bytes f.0) (ordered_part dates f.1) done) (fields_view (drop (i + 1) fs)))
held_next dates done fs i f h at = rw (next_member fs i f h at, key_bytes f.0) refl

-- what the map finds at a key
found : (k : String Global) (es : List Entry) (old : Option tomls.Value) → old ≡ lookup (is_at (string_cmp k)) es → toml.get_member (string_bytes k) (view.members_view es) ≡ option_map view.view old
found k es old is = sym (view-lookup (string_bytes k) es) ∙ ap (option_map view.view) (sym is)

-- where it finds none, the key is none of the members'
pub absent : (k : String Global) (es : List Entry) (old : Option tomls.Value) (u : List ℕ) → string_bytes k ≡ u → old ≡ lookup (is_at (string_cmp k)) es → is_some old ≡ false → toml.get_member u (view.members_view es) ≡ None
absent k es None u named is none = rw (← named) (found k es None is)
absent k es (Some d) u named is none = absurd (false≢true (sym none))

pub present : (k : String Global) (es : List Entry) (old : Option tomls.Value) (u : List ℕ) → string_bytes k ≡ u → old ≡ lookup (is_at (string_cmp k)) es → is_some old ≡ true → toml.get_member u (view.members_view es) ≡ None → ⊥
present k es None u named is some none = false≢true some
present k es (Some d) u named is some none = none-some (view.view d) (sym (rw (← named) at none) ∙ found k es (Some d) is)

-- ---- the document

pub document : (dates : Bool) (x : Datum) (fs : Fields) → x ≡ object fs → fits x ≡ true → AreTomlAmong dates toml.no_members fs → IsTomlDocument dates x
document dates x fs e f h = rw e (rw e at f, h)

pub document_members : (dates : Bool) (x : Datum) (fs : Fields) → x ≡ object fs → IsTomlDocument dates x → AreTomlAmong dates toml.no_members fs
document_members dates x fs e d = (rw e at d).1

pub document_data : (dates : Bool) (x : Datum) (fs : Fields) (ms : toml.Members) → x ≡ object fs → ms ≡ ordered_among toml.no_members (data_members dates fs) → ordered (data_of dates x) ≡ toml.table ms
document_data dates x fs ms e h = rw e (ap toml.table (sym h))

pub either_way : {A E : Type 0} {P P' : A → Type 0} {Q Q' : E → Type 0} (r : Result A E) → ((a : A) → P a → P' a) → ((e : E) → Q e → Q' e) → MatchResult r P Q → MatchResult r P' Q'
either_way (Ok a) f g h = f a h
either_way (Err e) f g h = g e h
