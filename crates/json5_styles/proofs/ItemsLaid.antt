-- The next element or member of a list, and how deep it is.
use Rattle.std.proofs.Common.{◌≡◌, ◌∙◌, ℕ, zero, suc, ◌+◌, ◌<◌, ◌≤◌, Bool, true, false, List, [], ◌∷◌, ◌++◌, append-nil, length, get_or, drop, refl, sym, ap, subst, append_assoc, rules, arith, String, string_bytes}
use Rattle.std.specs.Prelude.{ℤ}
use Rattle.std.specs.declared.alloc.Global.{Global}
use Rattle.std.specs.Str.{chars}
use Rattle.json5_grammar.specs.Language.Numbers.{Decimal, decimal, whole}
use Rattle.json5_types.specs.declared.value.Value.{Value, the_lemmas}
use Rattle.json5_types.specs.declared.value.Value as value
use Rattle.json5_types.specs.ValueLookups.{datum_depth, items_depth, fields_depth}
use Rattle.json5_types.specs.ValueMeanings.{Items, number, value_of, items_view, fields_view}
use Rattle.json5_write.specs.Brackets.{sign_of}
use Rattle.json5_write.specs.declared.brackets.BeforeElement.{BeforeElement}
use Rattle.json5_write.specs.declared.brackets.BeforeElement.TheVariants as before
use Rattle.json5_write.proofs.ValuesInside.{item_first}
use Rattle.json5_styles.specs.LaidBack.{HasNumbers, ItemsHaveNumbers, FieldsHaveNumbers}
use Rattle.json5_styles.specs.Styles.{Style, comma_if, closed, laid, items_laid, fields_laid}
use Rattle.json5_styles.specs.Layouts.{is_compact, line_in, style_of}
use Rattle.json5_styles.specs.declared.layout.Layout.{Layout}
use Rattle.json5_styles.specs.declared.layout.Layout.TheVariants as layout
use Rattle.json5_styles.specs.declared.layout.Spelling.{Spelling}
use Rattle.json5_styles.specs.declared.layout.Spelling.TheVariants as spelling

entry_then : (k m o r : List ℕ) → k ++ (m ++ (o ++ r)) ≡ (k ++ (m ++ o)) ++ r
entry_then k m o r = simp append_assoc refl

pub next_item : (s : Style) (d : ℕ) (started : Bool) (vs : List Value) (i : ℕ) (v : Value) → i < length vs → v ≡ get_or vs i v
    → items_laid s d started (items_view (drop i vs)) ≡ (comma_if started ++ s.line (d + 1)) ++ (laid s (d + 1) (value_of v) ++ items_laid s d true (items_view (drop (i + 1) vs)))
next_item s d started vs i v h e = ap (λ l. items_laid s d started (items_view l)) (item_first vs i v h e)

pub next_field : (s : Style) (d : ℕ) (started : Bool) (fs : List (String Global × Value)) (i : ℕ) (f : String Global × Value) → i < length fs → f ≡ get_or fs i f
    → fields_laid s d started (fields_view (drop i fs)) ≡ (comma_if started ++ s.line (d + 1)) ++ ((s.key (chars (string_bytes f.0)) ++ 58 ∷ (s.gap ++ laid s (d + 1) (value_of f.1))) ++ fields_laid s d true (fields_view (drop (i + 1) fs)))
next_field s d started fs i f h e =
    ap (λ l. fields_laid s d started (fields_view l)) (item_first fs i f h e)
    ∙ ap (λ l. (comma_if started ++ s.line (d + 1)) ++ l) (entry_then (s.key (chars (string_bytes f.0))) (58 ∷ s.gap) (laid s (d + 1) (value_of f.1)) (fields_laid s d true (fields_view (drop (i + 1) fs))))

-- ---- on one line

no_line : (l : Layout) (d : ℕ) → is_compact l ≡ true → [] ≡ line_in l d
no_line layout.Compact d h = refl
no_line (layout.Spaces n) d h = absurd (cc)
no_line layout.Tabs d h = absurd (cc)

pub comma_alone_on_line : (l : Layout) (due : Bool) (d : ℕ) → is_compact l ≡ true → comma_if due ≡ comma_if due ++ line_in l d
comma_alone_on_line l due d h = sym (append-nil (comma_if due)) ∙ ap (λ x. comma_if due ++ x) (no_line l d h)

pub closed_on_line : (s : Spelling) (l : Layout) (d : ℕ) (started : Bool) → is_compact l ≡ true → closed (style_of s l) d started ≡ []
closed_on_line s l d false h = refl
closed_on_line spelling.Json5 layout.Compact d true h = refl
closed_on_line spelling.Json layout.Compact d true h = refl
closed_on_line s (layout.Spaces n) d true h = absurd (cc)
closed_on_line s layout.Tabs d true h = absurd (cc)

-- what is left of an array, from what stands before the next element
abbrev pub items_left : Style → ℕ → BeforeElement → Items → List ℕ
items_left s d before.Bracket xs = 91 ∷ items_laid s d false xs
items_left s d before.Comma xs = items_laid s d true xs

pub next_on_line : (s : Spelling) (l : Layout) (d : ℕ) (b : BeforeElement) (vs : List Value) (i : ℕ) (v : Value) → is_compact l ≡ true → i < length vs → v ≡ get_or vs i v
    → items_left (style_of s l) d b (items_view (drop i vs)) ≡ (sign_of b ∷ laid (style_of s l) (d + 1) (value_of v)) ++ items_left (style_of s l) d before.Comma (items_view (drop (i + 1) vs))
next_on_line s l d before.Bracket vs i v h k e =
    let rest = laid (style_of s l) (d + 1) (value_of v) ++ items_laid (style_of s l) d true (items_view (drop (i + 1) vs)) in
    ap (λ x. 91 ∷ x) (next_item (style_of s l) d false vs i v k e) ∙ ap (λ x. 91 ∷ (x ++ rest)) (sym (comma_alone_on_line l false (d + 1) h))
next_on_line s l d before.Comma vs i v h k e =
    let rest = laid (style_of s l) (d + 1) (value_of v) ++ items_laid (style_of s l) d true (items_view (drop (i + 1) vs)) in
    next_item (style_of s l) d true vs i v k e ∙ ap (λ x. x ++ rest) (sym (comma_alone_on_line l true (d + 1) h))

-- ---- numbers

pub items_numbers : (vs : List Value) (i : ℕ) (v : Value) → i < length vs → v ≡ get_or vs i v → HasNumbers (value_of v) → ItemsHaveNumbers (items_view (drop (i + 1) vs)) → ItemsHaveNumbers (items_view (drop i vs))
items_numbers vs i v h e n rest = subst (λ l. ItemsHaveNumbers (items_view l)) (sym (item_first vs i v h e)) (n, rest)

pub fields_numbers : (fs : List (String Global × Value)) (i : ℕ) (f : String Global × Value) → i < length fs → f ≡ get_or fs i f → HasNumbers (value_of f.1) → FieldsHaveNumbers (fields_view (drop (i + 1) fs)) → FieldsHaveNumbers (fields_view (drop i fs))
fields_numbers fs i f h e n rest = subst (λ l. FieldsHaveNumbers (fields_view l)) (sym (item_first fs i f h e)) (n, rest)

-- ---- depths

pub item_within : (vs : List Value) (i : ℕ) (v : Value) → i < length vs → v ≡ get_or vs i v → datum_depth (value_of v) ≤ items_depth (items_view vs)
item_within [] i v h e = absurd (omega (arith, h))
item_within (w ∷ ws) zero v h e = let k = ap (λ u. datum_depth (value_of u)) e in grind arith
item_within (w ∷ ws) (suc i) v h e = let k = item_within ws i v (omega (arith, h)) e in grind arith

pub field_within : (fs : List (String Global × Value)) (i : ℕ) (f : String Global × Value) → i < length fs → f ≡ get_or fs i f → datum_depth (value_of f.1) ≤ fields_depth (fields_view fs)
field_within [] i f h e = absurd (omega (arith, h))
field_within (g ∷ gs) zero f h e = let k = ap (λ m. datum_depth (value_of m.1)) e in grind arith
field_within (g ∷ gs) (suc i) f h e = let k = field_within gs i f (omega (arith, h)) e in grind arith

pub view-Decimal : (d : Decimal) → value_of (value.Decimal d) ≡ number (decimal d)
view-Decimal d = search (rules, the_lemmas)

pub view-Whole : (z : ℤ) → value_of (value.Whole z) ≡ number (whole z)
view-Whole z = search (rules, the_lemmas)
