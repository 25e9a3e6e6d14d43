-- What a string or a key spells is scalar values.
use Rattle.std.proofs.Common.{◌≡◌, ℕ, ◌+◌, ◌*◌, ◌<◌, ◌≤◌, Bool, true, false, List, [], ◌∷◌, ◌++◌, refl, ap, ◌∙◌, subst, Option, Some, None, arith}
use Rattle.std.specs.Prelude.{◌==◌}
use Rattle.std.specs.Char.{IsScalar, digit_value}
use Rattle.std.specs.Str.{all_scalars, chars, encode_utf8_all}
use Rattle.std.proofs.lemmas.Bool.{and_parts}
use Rattle.std.proofs.lemmas.Bool.Decides.{nat_tests}
use Rattle.std.proofs.lemmas.Str.{chars-encodes}
use Rattle.json5_grammar.specs.Language.Characters.{is_in, is_hex_digit, char, no_char}
use Rattle.json5_grammar.specs.Language.Strings.{short_escape, Hex4, hex4, is_high, is_low, pair_value, Unicode, single, surrogates, Escape, short, nul, byte, unicode, line_end, cr_lf, lone_cr, itself, Items, no_item, raw, escape, Str, quoted}
use Rattle.json5_grammar.specs.Language.Names.{NameItem, raw_name, escaped_name, NameParts, no_part, part, Ident, name, Key, string_key, name_key}
use Rattle.json5_grammar.proofs.CommonLemmas.{by_test}
use Rattle.json5_tokens.proofs.TextCuts.{scalar_halves, one_scalar}

one_more : (c : ℕ) (x : List ℕ) → all_scalars (c ∷ x) ≡ true → IsScalar c × (all_scalars x ≡ true)
one_more c x e = and_parts _ (all_scalars x) e

more_scalars : (c : ℕ) (x : List ℕ) → IsScalar c → all_scalars x ≡ true → all_scalars (c ∷ x) ≡ true
more_scalars c x h k = rw (h, k) refl

append_scalars : (x y : List ℕ) → all_scalars x ≡ true → all_scalars y ≡ true → all_scalars (x ++ y) ≡ true
append_scalars [] y a b = b
append_scalars (c ∷ x) y a b = let k = one_more c x a in more_scalars c (x ++ y) k.0 (append_scalars x y k.1 b)

below_scalar : (c : ℕ) → c < 0xD800 → IsScalar c
below_scalar c h = grind (arith, nat_tests)

above_scalar : (c : ℕ) → 0xDFFF < c → c < 0x11_0000 → IsScalar c
above_scalar c h k = grind (arith, nat_tests)

hex_below : (c : ℕ) → is_hex_digit c ≡ true → digit_value c < 16
hex_below c h = grind (arith, nat_tests)

in_low : (a b c : ℕ) → is_in a b c ≡ true → a ≤ c
in_low a b c h = grind (arith, nat_tests)

in_high : (a b c : ℕ) → is_in a b c ≡ true → c ≤ b
in_high a b c h = grind (arith, nat_tests)

no_surrogate : (n : ℕ) → n < 0x1_0000 → is_in 0xD800 0xDFFF n ≡ false → IsScalar n
no_surrogate n h k = grind (arith, nat_tests)

four_below : (a b c d : ℕ) → a < 16 → b < 16 → c < 16 → d < 16 → ((a * 16 + b) * 16 + c) * 16 + d < 0x1_0000
four_below a b c d h k l m = omega arith

hex4_below : {h : List ℕ} {n : ℕ} → Hex4 h n → n < 0x1_0000
hex4_below (hex4 {a = a} {b = b} {c = c} {d = d} (char h (char k (char l (char m no_char))))) = four_below (digit_value a) (digit_value b) (digit_value c) (digit_value d) (hex_below a h) (hex_below b k) (hex_below c l) (hex_below d m)

joined_scalar : (n k : ℕ) → is_high n ≡ true → is_low k ≡ true → IsScalar (pair_value n k)
joined_scalar n k h l =
    let a = in_low 0xD800 0xDBFF n h in
    let b = in_high 0xD800 0xDBFF n h in
    let c = in_low 0xDC00 0xDFFF k l in
    let d = in_high 0xDC00 0xDFFF k l in
    above_scalar (pair_value n k) (omega arith) (omega arith)

unicode_scalar : {e : List ℕ} {n : ℕ} → Unicode e n → IsScalar n
unicode_scalar (single {n = n} x h) = no_surrogate n (hex4_below x) h
unicode_scalar (surrogates {n = n} {k = k} x y h l) = joined_scalar n k h l

-- the character of a short escape, if there is one
abbrev IsSmall : Option ℕ → Type 0
IsSmall o = (d : ℕ) → o ≡ Some d → d < 0xD800

some_small : (n : ℕ) → n < 0xD800 → IsSmall (Some n)
some_small n h d e = let same : n ≡ d = cc in omega arith

none_small : IsSmall None
none_small d e = absurd (cc)

short_small : (c : ℕ) → IsSmall (short_escape c)
short_small c =
    by_test IsSmall (c == 0x62) _ _ (λ _. some_small 0x08 (omega arith)) (λ _.
    by_test IsSmall (c == 0x74) _ _ (λ _. some_small 0x09 (omega arith)) (λ _.
    by_test IsSmall (c == 0x6E) _ _ (λ _. some_small 0x0A (omega arith)) (λ _.
    by_test IsSmall (c == 0x76) _ _ (λ _. some_small 0x0B (omega arith)) (λ _.
    by_test IsSmall (c == 0x66) _ _ (λ _. some_small 0x0C (omega arith)) (λ _.
    by_test IsSmall (c == 0x72) (Some 0x0D) None (λ _. some_small 0x0D (omega arith)) (λ _. none_small))))))

escape_scalars : {e v r : List ℕ} → Escape e v r → all_scalars e ≡ true → all_scalars v ≡ true
escape_scalars (short {c = c} {d = d} h) k = one_scalar d (below_scalar d (short_small c d h))
escape_scalars (nul h) k = refl
escape_scalars (byte {a = a} {b = b} (char h (char l no_char))) k =
    one_scalar (digit_value a * 16 + digit_value b) (below_scalar (digit_value a * 16 + digit_value b) (let x = hex_below a h in let y = hex_below b l in omega arith))
escape_scalars (unicode {n = n} u) k = one_scalar n (unicode_scalar u)
escape_scalars (line_end h n) k = refl
escape_scalars cr_lf k = refl
escape_scalars (lone_cr h) k = refl
escape_scalars (itself {c = c} h) k = (one_more 92 (c ∷ []) k).1

items_scalars : {q : ℕ} {r s u : List ℕ} {escape_free : Bool} → Items q r s u escape_free → all_scalars s ≡ true → all_scalars u ≡ true
items_scalars no_item k = refl
items_scalars (raw {c = c} {s = s} {u = u} h i) k = let l = one_more c s k in more_scalars c u l.0 (items_scalars i l.1)
items_scalars (escape {e = e} {v = v} {s = s} {u = u} x i) k = let l = scalar_halves e s k in append_scalars v u (escape_scalars x l.0) (items_scalars i l.1)

pub text_scalars : {s u : List ℕ} {escape_free : Bool} → Str s u escape_free → all_scalars s ≡ true → all_scalars u ≡ true
text_scalars (quoted {q = q} {s = s} h i) k = items_scalars i (scalar_halves s (q ∷ []) (one_more q (s ++ q ∷ []) k).1).0

-- ---- keys

item_scalar : {v : List ℕ} {c : ℕ} {p : Bool} → NameItem v c p → all_scalars v ≡ true → IsScalar c
item_scalar (raw_name {c = c} n) k = (one_more c [] k).0
item_scalar (escaped_name u) k = unicode_scalar u

parts_scalars : {s u : List ℕ} {escape_free : Bool} → NameParts s u escape_free → all_scalars s ≡ true → all_scalars u ≡ true
parts_scalars no_part k = refl
parts_scalars (part {s = s} {v = v} {u = u} {c = c} i h n) k = let l = scalar_halves v s k in more_scalars c u (item_scalar i l.0) (parts_scalars n l.1)

name_scalars : {s u : List ℕ} {escape_free : Bool} → Ident s u escape_free → all_scalars s ≡ true → all_scalars u ≡ true
name_scalars (name {v = v} {s = s} {u = u} {c = c} i h n) k = let l = scalar_halves v s k in more_scalars c u (item_scalar i l.0) (parts_scalars n l.1)

key_spelled : {s r u : List ℕ} {escape_free : Bool} → Key s r u escape_free → all_scalars s ≡ true → all_scalars u ≡ true
key_spelled (string_key k) h = text_scalars k h
key_spelled (name_key i e) h = name_scalars i h

-- a key in front spells scalar values
pub key_scalars : {s u : List ℕ} {escape_free : Bool} (x r : List ℕ) → x ≡ s ++ r → all_scalars x ≡ true → Key s r u escape_free → all_scalars u ≡ true
key_scalars {s = s} x r split h k = key_spelled k (scalar_halves s r (subst (λ z. all_scalars z ≡ true) split h)).0

-- a string in front spells scalar values
pub string_scalars : {s u : List ℕ} {escape_free : Bool} (x r : List ℕ) → x ≡ s ++ r → all_scalars x ≡ true → Str s u escape_free → all_scalars u ≡ true
string_scalars {s = s} x r split h k = text_scalars k (scalar_halves s r (subst (λ z. all_scalars z ≡ true) split h)).0

-- the bytes of what a string in front spells have its characters
pub text_characters : {s u : List ℕ} {escape_free : Bool} (x r bytes : List ℕ) → x ≡ s ++ r → all_scalars x ≡ true → Str s u escape_free → bytes ≡ encode_utf8_all u → chars bytes ≡ u
text_characters {u = u} x r bytes split k str same = ap chars same ∙ chars-encodes u (string_scalars x r split k str)
