-- The styles of JSON5 and of JSON have blank lines and gaps, and spell strings and keys.
use Rattle.std.proofs.Common.{◌≡◌, ℕ, zero, suc, ◌+◌, ◌*◌, ◌/◌, ◌%◌, ◌<◌, Bool, true, false, if◌then◌else◌, nat_lt, List, [], ◌∷◌, ◌++◌, replicate, refl, sym, subst, arith}
use Rattle.std.specs.Prelude.{◌==◌}
use Rattle.std.specs.Char.{digit_char, digit_value}
use Rattle.std.proofs.lemmas.Bool.Decides.{nat_tests}
use Rattle.std.proofs.lemmas.Str.{digit_value-digit_char}
use Rattle.json5_grammar.specs.Language.Blanks.{Blanks, empty, blank}
use Rattle.json5_grammar.specs.Language.Characters.{is_in, is_hex_digit, Each, no_char, char}
use Rattle.json5_grammar.specs.Language.Strings.{Items, no_item, raw, escape, Str, quoted, Escape, short, itself, unicode, single, hex4, is_raw, Unicode}
use Rattle.json5_grammar.specs.Language.Values.{KeyText, string_key, name_key}
use Rattle.json5_grammar.specs.Written.Quoting.{is_name, quoted_text}
use Rattle.json5_grammar.proofs.CommonLemmas.{by_test, eq_from}
use Rattle.json5_grammar.proofs.TextsWritten.{quoted_is, name_is}
use Rattle.json5_styles.specs.declared.layout.Layout.{Layout}
use Rattle.json5_styles.specs.declared.layout.Layout.TheVariants as layout
use Rattle.json5_styles.specs.declared.layout.Spelling.TheVariants as spelling
use Rattle.json5_styles.specs.JsonTexts.{control_code, json_escaped, json_escaped_all, json_string}
use Rattle.json5_styles.specs.Layouts.{line_in, gap_in, style_of}
use Rattle.json5_styles.proofs.ReadBack.{IsStyle}

-- ---- blanks

repeated : (c : ℕ) (n : ℕ) → Blanks (c ∷ []) → Blanks (replicate n c)
repeated c zero b = empty
repeated c (suc n) (blank h e) = blank h (repeated c n (blank h e))

lines_blank : (l : Layout) (d : ℕ) → Blanks (line_in l d)
lines_blank layout.Compact d = empty
lines_blank (layout.Spaces n) d = blank refl (repeated 32 (n * d) (blank refl empty))
lines_blank layout.Tabs d = blank refl (repeated 9 d (blank refl empty))

gap_blank : (l : Layout) → Blanks (gap_in l)
gap_blank layout.Compact = empty
gap_blank (layout.Spaces n) = blank refl empty
gap_blank layout.Tabs = blank refl empty

-- ---- JSON5

name_or_string : (u : List ℕ) (b : Bool) → is_name u ≡ b → (escape_free : Bool) × KeyText (if b then u else quoted_text u) u escape_free
name_or_string u true h = (true, name_key (name_is u h))
name_or_string u false h = (_, string_key (quoted_is u))

pub json5_style : (l : Layout) → IsStyle (style_of spelling.Json5 l)
json5_style l = record { lines = lines_blank l; gap = gap_blank l; strings = λ u. (_, quoted_is u); keys = λ u. name_or_string u (is_name u) refl }

-- ---- JSON

-- items that mean u
abbrev JsonItems : List ℕ → List ℕ → Type 0
JsonItems u s = (p : Bool) × Items 34 (34 ∷ []) s u p

by_escape : {e u s : List ℕ} {c : ℕ} (d : ℕ) → (d == c) ≡ true → Escape e (c ∷ []) (s ++ 34 ∷ []) → JsonItems u s → JsonItems (d ∷ u) (e ++ s)
by_escape {e = e} {u = u} {s = s} {c = c} d h x (p, i) = (false, subst (λ z. Items 34 (34 ∷ []) (e ++ s) (z ∷ u) false) (sym (eq_from d c h)) (escape x i))

raw_from : (c : ℕ) → (c == 34) ≡ false → (c == 92) ≡ false → (c == 10) ≡ false → (c == 13) ≡ false → is_raw 34 c ≡ true
raw_from c a b d e = grind (arith, nat_tests)

glyph_is_digit : (d : ℕ) → d < 16 → is_hex_digit (digit_char d) ≡ true
glyph_is_digit d h = grind (arith, nat_tests)

-- the code of a control character
control_means : (c : ℕ) → c < 32 → ((digit_value 48 * 16 + digit_value 48) * 16 + digit_value (digit_char (c / 16))) * 16 + digit_value (digit_char (c % 16)) ≡ c
control_means c h = rw (digit_value-digit_char (c / 16) (omega arith), digit_value-digit_char (c % 16) (omega arith)) (omega arith)

not_surrogate : (c n : ℕ) → n ≡ c → c < 32 → is_in 0xD800 0xDFFF n ≡ false
not_surrogate c n e h = grind (arith, nat_tests)

pub control_digits : (c : ℕ) → c < 32 → Each is_hex_digit (48 ∷ 48 ∷ digit_char (c / 16) ∷ digit_char (c % 16) ∷ [])
control_digits c h = char refl (char refl (char (glyph_is_digit (c / 16) (omega arith)) (char (glyph_is_digit (c % 16) (omega arith)) no_char)))

control_escape : (c : ℕ) (r : List ℕ) → c < 32 → Escape (control_code c) (c ∷ []) r
control_escape c r h =
    let e = control_means c h in
    unicode (subst (Unicode (control_code c)) e (single (hex4 (control_digits c h)) (not_surrogate c _ e h)))

below_space : (c : ℕ) → nat_lt c 32 ≡ true → c < 32
below_space c h = grind (arith, nat_tests)

json_char : (c : ℕ) (u s : List ℕ) → JsonItems u s → JsonItems (c ∷ u) (json_escaped c ++ s)
json_char c u s w =
    by_test P (c == 34) _ _ (λ t. by_escape c t (itself refl) w)
    (λ not_q. by_test P (c == 92) _ _ (λ t. by_escape c t (itself refl) w)
    (λ not_slash. by_test P (c == 8) _ _ (λ t. by_escape c t (short refl) w)
    (λ not_bs. by_test P (c == 12) _ _ (λ t. by_escape c t (short refl) w)
    (λ not_ff. by_test P (c == 10) _ _ (λ t. by_escape c t (short refl) w)
    (λ not_lf. by_test P (c == 13) _ _ (λ t. by_escape c t (short refl) w)
    (λ not_cr. by_test P (c == 9) _ _ (λ t. by_escape c t (short refl) w)
    (λ not_tab. by_test P (nat_lt c 32) _ _ (λ t. (false, escape (control_escape c (s ++ 34 ∷ []) (below_space c t)) w.1))
    (λ not_low. (w.0, raw (raw_from c not_q not_slash not_lf not_cr) w.1)))))))))
  where
    P : List ℕ → Type 0
    P z = JsonItems (c ∷ u) (z ++ s)

json_items : (u : List ℕ) → JsonItems u (json_escaped_all u)
json_items [] = (true, no_item)
json_items (c ∷ u) = json_char c u (json_escaped_all u) (json_items u)

json_text_is : (u : List ℕ) → (escape_free : Bool) × Str (json_string u) u escape_free
json_text_is u = let i = json_items u in (i.0, quoted refl i.1)

pub json_key_is : (u : List ℕ) → (escape_free : Bool) × KeyText (json_string u) u escape_free
json_key_is u = let k = json_text_is u in (k.0, string_key k.1)

pub json_style : (l : Layout) → IsStyle (style_of spelling.Json l)
json_style l = record { lines = lines_blank l; gap = gap_blank l; strings = json_text_is; keys = json_key_is }
