-- Keys: complete, refused, sound; and the faults of tokens as those of an input after a front.
use Rattle.std.proofs.Common.{◌≡◌, ℕ, Bool, true, false, ◌||◌, List, [], ◌∷◌, ◌++◌, refl, ap, sym, ◌∙◌, arith, ◌⊎◌, inl, inr, subst, Option}
use Rattle.std.specs.Prelude.{◌==◌}
use Rattle.std.proofs.lemmas.Bool.Decides.{nat_tests}
use Rattle.ucd_category.specs.GeneralCategory.{general_category}
use Rattle.ucd_table.specs.Rows.{value_in}
use Rattle.ucd_category.specs.GeneralCategoryRows.{general_category_rows}
use Rattle.json5_grammar.specs.Language.Characters.{is_identifier_start}
use Rattle.json5_grammar.specs.Language.Strings.{Str, quoted, is_quote}
use Rattle.json5_grammar.specs.Language.Names.{Ident, name, raw_name, escaped_name, Key, string_key, name_key}
use Rattle.json5_grammar.specs.Faults.Codes.{ErrorCode, Shown}
use Rattle.json5_grammar.specs.Faults.Tokens.{StringFault, raw_terminator, string_ends, NameFault, no_unicode_escape, escaped_no_start, escaped_no_part, name_ends, backslash_ends, Named, no_item_yet, some_items}
use Rattle.json5_grammar.specs.Model.Reading.{Read, got, bad}
use Rattle.json5_grammar.specs.Model.ReadTexts.{string, identifier, key}
use Rattle.json5_grammar.proofs.CommonLemmas.{by_test, or_right}
use Rattle.json5_grammar.proofs.Refusals.{Refuses, one_answer}
use Rattle.json5_grammar.proofs.StringsRead.{string_complete, string_refused, fault_head}
use Rattle.json5_grammar.proofs.StringsSound.{StringBlamed, StringSound, string_sound}
use Rattle.json5_grammar.proofs.NamesRead.{name_complete, name_refused, unicode_head}
use Rattle.json5_grammar.proofs.NamesSound.{NameBlamed, NameSound, name_sound}

-- begins with a quote, or with something else
abbrev pub QuoteHead : Bool → List ℕ → Type 0
QuoteHead q x = (c : ℕ) × (r : List ℕ) × (x ≡ c ∷ r) × (is_quote c ≡ q)

key_string : (x : List ℕ) → QuoteHead true x → key x ≡ string x
unfolding key
key_string x (c, r, e, h) = rw (e, h) refl

key_name : (x : List ℕ) → QuoteHead false x → key x ≡ identifier x
unfolding key
key_name x (c, r, e, h) = rw (e, h) refl

heads_more : {q : Bool} {x : List ℕ} (z : List ℕ) → QuoteHead q x → QuoteHead q (x ++ z)
heads_more z (c, r, e, h) = (c, r ++ z, ap (λ y. y ++ z) e, h)

no_start : (is_identifier_start 34 ≡ false) × (is_identifier_start 39 ≡ false)
unfolding is_identifier_start general_category value_in general_category_rows
no_start = (refl, refl)

quote_cases : (c : ℕ) → is_quote c ≡ true → (c ≡ 34) ⊎ (c ≡ 39)
quote_cases c h = grind (arith, nat_tests)

start_no_quote : (c : ℕ) → is_identifier_start c ≡ true → is_quote c ≡ false
start_no_quote c h = by_value (is_quote c) refl
  where
    by_quote : (c ≡ 34) ⊎ (c ≡ 39) → ⊥
    by_quote (inl e) = let a : true ≡ false = sym h ∙ ap is_identifier_start e ∙ no_start.0 in absurd (cc)
    by_quote (inr e) = let a : true ≡ false = sym h ∙ ap is_identifier_start e ∙ no_start.1 in absurd (cc)

    by_value : (b : Bool) → is_quote c ≡ b → is_quote c ≡ false
    by_value true e = absurd (by_quote (quote_cases c e))
    by_value false e = e

backslash_head : (x : List ℕ) → (t : List ℕ) × (x ≡ 92 ∷ t) → QuoteHead false x
backslash_head x (t, e) = (92, t, e, refl)

ident_head : {s u : List ℕ} {p : Bool} → Ident s u p → QuoteHead false s
ident_head (name {s = s} (raw_name {c = c} n) h i) = (c, s, refl, start_no_quote c h)
ident_head (name {s = s} (escaped_name {e = e} u) h i) = heads_more s (backslash_head e (unicode_head u))

str_head : {s u : List ℕ} {p : Bool} → Str s u p → QuoteHead true s
str_head (quoted {q = q} {s = s} h i) = (q, s ++ q ∷ [], refl, h)

pub string_fault_head : {x b p : List ℕ} {e : Option ErrorCode} {pl : Option (List ℕ)} {how : Shown} → StringFault x e pl b p how → QuoteHead true x
string_fault_head (raw_terminator {q = q} {c = c} {s = s} r h i l) = (q, s ++ c ∷ r, refl, h)
string_fault_head (string_ends {q = q} {s = s} h i) = (q, s, refl, h)
string_fault_head (StringFault.in_string_escape {q = q} {s = s} {x = x} h i f) = (q, s ++ x, refl, h)

named_head : {t : List ℕ} (x : List ℕ) → Named t → QuoteHead false x → QuoteHead false (t ++ x)
named_head x no_item_yet h = h
named_head x (some_items i) h = heads_more x (ident_head i)

pub name_fault_head : {x b p : List ℕ} {e : Option ErrorCode} {pl : Option (List ℕ)} {how : Shown} → NameFault x e pl b p how → QuoteHead false x
name_fault_head (NameFault.in_name_escape {x = x} k f) = named_head x k (backslash_head x (fault_head f))
name_fault_head (no_unicode_escape c r k n) = named_head (92 ∷ c ∷ r) k (92, c ∷ r, refl, refl)
name_fault_head (escaped_no_start {e = e} r u n) = heads_more r (backslash_head e (unicode_head u))
name_fault_head (escaped_no_part {e = e} r i u n) = heads_more (e ++ r) (ident_head i)
name_fault_head (name_ends i) = ident_head i
name_fault_head (backslash_ends k) = named_head (92 ∷ []) k (92, [], refl, refl)

pub key_complete : {k r u : List ℕ} {escape_free : Bool} → Key k r u escape_free → key (k ++ r) ≡ got (u, escape_free) r
key_complete (string_key {k = k} {r = r} s) = key_string (k ++ r) (heads_more r (str_head s)) ∙ string_complete r s
key_complete (name_key {k = k} {r = r} {c = c} i h) = key_name (k ++ c ∷ r) (heads_more (c ∷ r) (ident_head i)) ∙ name_complete c r i h

pub key_string_refused : {x b p : List ℕ} {e : Option ErrorCode} {pl : Option (List ℕ)} {how : Shown} → StringFault x e pl b p how → Refuses (key x) x e pl
key_string_refused {x = x} {e = e} {pl = pl} f = subst (λ z. Refuses z x e pl) (sym (key_string x (string_fault_head f))) (string_refused f)

pub key_name_refused : {x b p : List ℕ} {e : Option ErrorCode} {pl : Option (List ℕ)} {how : Shown} → NameFault x e pl b p how → Refuses (key x) x e pl
key_name_refused {x = x} {e = e} {pl = pl} f = subst (λ z. Refuses z x e pl) (sym (key_name x (name_fault_head f))) (name_refused f)

-- one key at the front
pub one_key : {s u t v r y : List ℕ} {p q : Bool} → Key s r u p → Key t y v q → s ++ r ≡ t ++ y → (s ≡ t) × (u ≡ v) × (p ≡ q) × (r ≡ y)
one_key {s = s} {u = u} {t = t} {v = v} {r = r} {y = y} {p = p} {q = q} a b e =
    let k = one_answer key s r t y (u, p) (v, q) (key_complete a) (key_complete b) e in
    (k.0, ap (λ z. z.0) k.1, ap (λ z. z.1) k.1, k.2)

-- ---- sound

abbrev pub KeySound : List ℕ → Read (List ℕ × Bool) → Type 0
KeySound x (got a r) = (k : List ℕ) × (x ≡ k ++ r) × Key k r a.0 a.1
KeySound x (bad e p) = StringBlamed x e p ⊎ NameBlamed x e p

from_string : (x : List ℕ) (res : Read (List ℕ × Bool)) → StringSound x res → KeySound x res
from_string x (got a r) (s, e, k) = (s, e, string_key k)
from_string x (bad e p) b = inl b

from_name : (x : List ℕ) (res : Read (List ℕ × Bool)) → NameSound x res → KeySound x res
from_name x (got a r) (s, e, i, (c, z, f, h)) = (s, e, subst (λ y. Key s y a.0 a.1) (sym f) (name_key i h))
from_name x (bad e p) b = inr b

pub key_sound : (c : ℕ) (r : List ℕ) → (is_quote c || ((c == 92) || is_identifier_start c)) ≡ true → KeySound (c ∷ r) (key (c ∷ r))
unfolding key
key_sound c r begins =
    by_test (KeySound (c ∷ r)) (is_quote c) (string (c ∷ r)) (identifier (c ∷ r))
    (λ h. from_string (c ∷ r) (string (c ∷ r)) (string_sound c r h))
    (λ h. from_name (c ∷ r) (identifier (c ∷ r)) (name_sound c r (or_right (is_quote c) ((c == 92) || is_identifier_start c) begins h)))
