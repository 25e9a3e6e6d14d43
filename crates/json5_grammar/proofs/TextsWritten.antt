-- What is written of a string reads back.
use Rattle.std.proofs.Common.{◌≡◌, ℕ, Bool, true, false, ◌&&◌, List, [], ◌∷◌, ◌++◌, refl, ap, sym, ◌∙◌, arith, ◌≢◌, subst}
use Rattle.std.specs.Prelude.{◌==◌, not}
use Rattle.std.specs.List.{list_any, list_all}
use Rattle.std.proofs.lemmas.Bool.Decides.{nat_tests}
use Rattle.ucd_category.specs.GeneralCategory.{general_category}
use Rattle.ucd_table.specs.Rows.{value_in}
use Rattle.ucd_category.specs.GeneralCategoryRows.{general_category_rows}
use Rattle.json5_grammar.specs.Language.Characters.{is_identifier_start, is_identifier_part, no_char, char}
use Rattle.json5_grammar.specs.Language.Strings.{Items, no_item, raw, escape, is_raw, is_quote, stands_for_itself, Str, quoted, Escape, short, unicode, itself, single, hex4, holds_backslash}
use Rattle.json5_grammar.specs.Language.Names.{raw_name, escaped_name, NameParts, no_part, part, Ident, name, Key, string_key, name_key, goes_on_name}
use Rattle.json5_grammar.specs.Written.Quoting.{escaped, escaped_all, quote_for, is_name, key_text, quoted_text}
use Rattle.json5_grammar.proofs.CommonLemmas.{by_test, eq_from, not_eq, and_left, and_right, same_char}
use Rattle.json5_grammar.proofs.StringsRead.{escape_head}
use Rattle.json5_grammar.proofs.NamesRead.{unicode_head}

-- ---- escape-free: no backslash

no_backslash_raw : (q c : ℕ) → is_raw q c ≡ true → (c == 92) ≡ false
no_backslash_raw q c h = grind (arith, nat_tests)

no_backslash_quote : (q : ℕ) → is_quote q ≡ true → (q == 92) ≡ false
no_backslash_quote q h = grind (arith, nat_tests)

begun_by_backslash : (e s : List ℕ) → (t : List ℕ) × (e ≡ 92 ∷ t) → holds_backslash (e ++ s) ≡ true
begun_by_backslash e s (t, h) = ap (λ z. holds_backslash (z ++ s)) h

pub items_escape_free : {q : ℕ} {r s u : List ℕ} {p : Bool} (z : List ℕ) → holds_backslash z ≡ false → Items q r s u p → p ≡ not (holds_backslash (s ++ z))
items_escape_free z h no_item = rw h refl
items_escape_free {q = q} z h (raw {c = c} k i) = rw (no_backslash_raw q c k) (items_escape_free z h i)
items_escape_free z h (escape {e = e} {s = s} x i) = ap not (sym (begun_by_backslash (e ++ s) z (both e s (escape_head x))))
  where
    both : (e s : List ℕ) → (t : List ℕ) × (e ≡ 92 ∷ t) → (t : List ℕ) × (e ++ s ≡ 92 ∷ t)
    both e s (t, h) = (t ++ s, ap (λ z. z ++ s) h)

-- a string is escape-free where it holds no backslash
pub string_escape_free : {s u : List ℕ} {p : Bool} → Str s u p → p ≡ not (holds_backslash s)
string_escape_free (quoted {q = q} {s = s} k i) =
    let f : (q == 92) ≡ false = no_backslash_quote q k in
    let z : holds_backslash (q ∷ []) ≡ false = rw f refl in
    rw f (items_escape_free (q ∷ []) z i)

-- ---- quoted texts

self_quote : (q c : ℕ) → is_quote q ≡ true → (c == q) ≡ true → stands_for_itself c ≡ true
self_quote q c k h = grind (arith, nat_tests)

raw_from : (q c : ℕ) → (c == q) ≡ false → (c == 92) ≡ false → (c == 10) ≡ false → (c == 13) ≡ false → is_raw q c ≡ true
raw_from q c a b d e = grind (arith, nat_tests)

-- items that mean u
abbrev WrittenItems : ℕ → List ℕ → List ℕ → List ℕ → Type 0
WrittenItems q r u s = (p : Bool) × Items q r s u p

by_escape : {e u s r : List ℕ} {c : ℕ} {q : ℕ} (d : ℕ) → (d == c) ≡ true → Escape e (c ∷ []) (s ++ r) → WrittenItems q r u s → WrittenItems q r (d ∷ u) (e ++ s)
by_escape {e = e} {u = u} {s = s} {r = r} {c = c} {q = q} d h x (p, i) = (false, subst (λ z. Items q r (e ++ s) (z ∷ u) false) (sym (eq_from d c h)) (escape x i))

written_char : (q c : ℕ) (r u s : List ℕ) → is_quote q ≡ true → WrittenItems q r u s → WrittenItems q r (c ∷ u) (escaped q c ++ s)
written_char q c r u s k w =
    by_test P (c == q) _ _ (λ t. by_escape c (same_char c) (itself (self_quote q c k t)) w)
    (λ not_q. by_test P (c == 92) _ _ (λ t. by_escape c t (itself refl) w)
    (λ not_slash. by_test P (c == 10) _ _ (λ t. by_escape c t (short refl) w)
    (λ not_lf. by_test P (c == 13) _ _ (λ t. by_escape c t (short refl) w)
    (λ not_cr. by_test P (c == 0x2028) _ _ (λ t. by_escape c t (unicode (single (hex4 {a = 50} {b = 48} {c = 50} {d = 56} (char refl (char refl (char refl (char refl no_char))))) refl)) w)
    (λ not_ls. by_test P (c == 0x2029) _ _ (λ t. by_escape c t (unicode (single (hex4 {a = 50} {b = 48} {c = 50} {d = 57} (char refl (char refl (char refl (char refl no_char))))) refl)) w)
    (λ not_ps. (w.0, raw (raw_from q c not_q not_slash not_lf not_cr) w.1)))))))
  where
    P : List ℕ → Type 0
    P z = WrittenItems q r (c ∷ u) (z ++ s)

written_all : (q : ℕ) (r u : List ℕ) → is_quote q ≡ true → WrittenItems q r u (escaped_all q u)
written_all q r [] k = (true, no_item)
written_all q r (c ∷ u) k = written_char q c r u (escaped_all q u) k (written_all q r u k)

pub quote_is : (u : List ℕ) → is_quote (quote_for u) ≡ true
quote_is u = by_test (λ q. is_quote q ≡ true) (list_any (λ c. c == 34) u && not (list_any (λ c. c == 39) u)) 39 34 (λ h. refl) (λ h. refl)

-- a written text is a string of that text, escape-free where it holds no backslash
pub quoted_is : (u : List ℕ) → Str (quoted_text u) u (not (holds_backslash (quoted_text u)))
quoted_is u =
    let w = written_all (quote_for u) (quote_for u ∷ []) u (quote_is u) in
    let s : Str (quoted_text u) u w.0 = quoted (quote_is u) w.1 in
    subst (Str (quoted_text u) u) (string_escape_free s) s

-- ---- names

backslash_no_part : is_identifier_part 92 ≡ false
unfolding is_identifier_part is_identifier_start general_category value_in general_category_rows
backslash_no_part = refl

backslash_no_start : is_identifier_start 92 ≡ false
unfolding is_identifier_start general_category value_in general_category_rows
backslash_no_start = refl

colon_stops : goes_on_name 58 ≡ false
unfolding is_identifier_part is_identifier_start general_category value_in general_category_rows
colon_stops = refl

not_backslash : (f : ℕ → Bool) (c : ℕ) → f 92 ≡ false → f c ≡ true → c ≢ 92
not_backslash f c h k e = let a : true ≡ false = sym k ∙ ap f e ∙ h in absurd (cc)

written_parts : (u : List ℕ) → list_all is_identifier_part u ≡ true → NameParts u u true
written_parts [] h = no_part
written_parts (c ∷ u) h =
    let k = and_left (is_identifier_part c) (list_all is_identifier_part u) h in
    part (raw_name (not_backslash is_identifier_part c backslash_no_part k)) k (written_parts u (and_right (is_identifier_part c) (list_all is_identifier_part u) h))

-- a text that is an identifier is written bare
pub name_is : (u : List ℕ) → is_name u ≡ true → Ident u u true
name_is [] h = absurd (cc)
name_is (c ∷ u) h =
    let k = and_left (is_identifier_start c) (list_all is_identifier_part u) h in
    name (raw_name (not_backslash is_identifier_start c backslash_no_start k)) k (written_parts u (and_right (is_identifier_start c) (list_all is_identifier_part u) h))

-- a written key is a key of that text, before a colon
pub key_is : (u r : List ℕ) → (escape_free : Bool) × Key (key_text u) (58 ∷ r) u escape_free
key_is u r =
    by_test (λ k. (escape_free : Bool) × Key k (58 ∷ r) u escape_free) (is_name u) u (quoted_text u)
    (λ h. (true, name_key (name_is u h) colon_stops))
    (λ h. (not (holds_backslash (quoted_text u)), string_key (quoted_is u)))

name_parts_escape_free : {s u : List ℕ} {p : Bool} → NameParts s u p → p ≡ not (holds_backslash s)
name_parts_escape_free no_part = refl
name_parts_escape_free (part {s = s} (raw_name {c = c} n) h i) = rw (not_eq c 92 n) (name_parts_escape_free i)
name_parts_escape_free (part {s = s} (escaped_name {e = e} u) h i) = ap not (sym (begun_by_backslash e s (unicode_head u)))

-- a name is escape-free where it holds no backslash
pub name_escape_free : {s u : List ℕ} {p : Bool} → Ident s u p → p ≡ not (holds_backslash s)
name_escape_free (name {s = s} (raw_name {c = c} n) h i) = rw (not_eq c 92 n) (name_parts_escape_free i)
name_escape_free (name {s = s} (escaped_name {e = e} u) h i) = ap not (sym (begun_by_backslash e s (unicode_head u)))

-- ---- an escape-free text is a slice of the input

items_same : {q : ℕ} {r s u : List ℕ} {p : Bool} → Items q r s u p → p ≡ true → s ≡ u
items_same no_item h = refl
items_same (raw {c = c} k i) h = ap (λ z. c ∷ z) (items_same i h)
items_same (escape x i) h = absurd (cc)

pub string_slice : {s u : List ℕ} {p : Bool} → Str s u p → p ≡ true → (q : ℕ) × (is_quote q ≡ true) × (s ≡ q ∷ u ++ q ∷ [])
string_slice (quoted {q = q} k i) h = (q, k, ap (λ z. q ∷ z ++ q ∷ []) (items_same i h))

parts_same : {s u : List ℕ} {p : Bool} → NameParts s u p → p ≡ true → s ≡ u
parts_same no_part h = refl
parts_same (part (raw_name {c = c} n) k i) h = ap (λ z. c ∷ z) (parts_same i h)
parts_same (part (escaped_name x) k i) h = absurd (cc)

pub name_slice : {s u : List ℕ} {p : Bool} → Ident s u p → p ≡ true → s ≡ u
name_slice (name (raw_name {c = c} n) k i) h = ap (λ z. c ∷ z) (parts_same i h)
name_slice (name (escaped_name x) k i) h = absurd (cc)
