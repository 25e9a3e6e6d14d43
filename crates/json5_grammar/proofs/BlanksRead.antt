-- Reading skips all blanks of the grammar.
use Rattle.std.proofs.Common.{◌≡◌, ℕ, zero, suc, ◌+◌, ◌≤◌, ◌<◌, Bool, true, false, ◌&&◌, ◌||◌, not, List, [], ◌∷◌, ◌++◌, refl, ap, sym, ◌∙◌, append_assoc, arith, ◌≢◌}
use Rattle.std.specs.Prelude.{◌==◌}
use Rattle.std.proofs.lemmas.Bool.{not-true, not-false}
use Rattle.std.proofs.lemmas.Bool.Decides.{nat_tests}
use Rattle.std.proofs.lemmas.List.{append-nil}
use Rattle.ucd_category.specs.GeneralCategory.{general_category}
use Rattle.ucd_table.specs.Rows.{value_in}
use Rattle.ucd_category.specs.GeneralCategoryRows.{general_category_rows}
use Rattle.json5_grammar.specs.Language.Characters.{is_in, is_terminator, is_space_separator, is_blank, NotBegun, Each, no_char, char}
use Rattle.json5_grammar.specs.Language.Blanks.{Inside, ends, star, other, Blanks, empty, blank, line, block, LastBlanks, open_line, Gap, at_end, is_solid, Solid}
use Rattle.json5_grammar.specs.Model.Reading.{got}
use Rattle.json5_grammar.specs.Model.ReadBlanks.{Mode, between, slash, skip}
use Rattle.json5_grammar.proofs.CommonLemmas.{eq_from, neq_from, not_eq}

-- ---- printable characters are no blanks

-- none of n characters from low on is a space
no_spaces : ℕ → ℕ → Bool
no_spaces low zero = true
no_spaces low (suc n) = not (is_space_separator low) && no_spaces (suc low) n

printable_checked : no_spaces 33 94 ≡ true
unfolding no_spaces is_space_separator general_category value_in general_category_rows
printable_checked = refl

none_holds : (n low c : ℕ) → no_spaces low n ≡ true → low ≤ c → c < low + n → is_space_separator c ≡ false
unfolding no_spaces
none_holds zero low c h a b = absurd (omega arith)
none_holds (suc n) low c h a b = split (is_space_separator low) refl h (c == low) refl (λ k f. none_holds n (suc low) c k (past f) (omega arith))
  where
    split : (s : Bool) → is_space_separator low ≡ s → (not s && no_spaces (suc low) n) ≡ true → (e : Bool) → (c == low) ≡ e
        → (no_spaces (suc low) n ≡ true → (c == low) ≡ false → is_space_separator c ≡ false) → is_space_separator c ≡ false
    split true k h e f g = absurd (cc)
    split false k h true f g = let same : c ≡ low = eq_from c low f in rw same k
    split false k h false f g = g h f

    past : (c == low) ≡ false → suc low ≤ c
    past f = let ne : c ≢ low = neq_from c low f in omega arith

-- a character from `!` to `~` is no space
pub printable_no_space : (c : ℕ) → is_in 33 126 c ≡ true → is_space_separator c ≡ false
printable_no_space c h = none_holds 94 33 c printable_checked (grind (arith, nat_tests)) (grind (arith, nat_tests))

-- a character from `!` to `~` is no blank
pub printable_no_blank : (c : ℕ) → is_in 33 126 c ≡ true → is_blank c ≡ false
printable_no_blank c h = let k = printable_no_space c h in rw k (others c h)
  where
    others : (c : ℕ) → is_in 33 126 c ≡ true → (is_in 9 13 c || ((c == 32) || ((c == 0xA0) || ((c == 0x2028) || ((c == 0x2029) || ((c == 0xFEFF) || false)))))) ≡ false
    others c h = grind (arith, nat_tests)

-- ---- comments

-- a slash begins a comment
pub skip_slash : (r : List ℕ) → skip between (47 ∷ r) ≡ skip slash r
unfolding skip is_space_separator general_category value_in general_category_rows
skip_slash r = refl

-- a `//` comment is passed over with its terminator
pub skip_line : {x : List ℕ} (c : ℕ) (y : List ℕ) → Each (λ d. not (is_terminator d)) x → is_terminator c ≡ true → skip Mode.line (x ++ c ∷ y) ≡ skip between y
unfolding skip
skip_line c y no_char h = rw h refl
skip_line c y (char {c = d} n k) h = rw (not-true (is_terminator d) n) (skip_line c y k h)

mutual
  unfolding skip

  -- a `/* */` comment is passed over
  pub skip_block : {x : List ℕ} (y : List ℕ) → Inside x → skip Mode.block (x ++ 42 ∷ 47 ∷ y) ≡ skip between y
  skip_block y ends = refl
  skip_block y (star h i) = skip_star y i h
  skip_block y (other {c = c} ne i) = rw (not_eq c 42 ne) (skip_block y i)

  -- and so is one after a star in it
  pub skip_star : {x : List ℕ} (y : List ℕ) → Inside x → NotBegun (λ c. c == 47) x → skip Mode.star (x ++ 42 ∷ 47 ∷ y) ≡ skip between y
  skip_star y ends h = refl
  skip_star y (star k i) h = skip_star y i k
  skip_star y (other {c = c} ne i) h = rw (h, not_eq c 42 ne) (skip_block y i)

-- ---- blanks

-- blanks in front are passed over
pub skip_blanks : {w : List ℕ} (r : List ℕ) → Blanks w → skip between (w ++ r) ≡ skip between r
unfolding skip
skip_blanks r empty = refl
skip_blanks r (blank h b) = rw h (skip_blanks r b)
skip_blanks r (line {x = x} c {s = s} n h b) = skip_slash (47 ∷ (x ++ c ∷ s) ++ r) ∙ ap (skip Mode.line) (append_assoc x (c ∷ s) r) ∙ skip_line c (s ++ r) n h ∙ skip_blanks r b
skip_blanks r (block {x = x} {s = s} i b) = skip_slash (42 ∷ (x ++ 42 ∷ 47 ∷ s) ++ r) ∙ ap (skip Mode.block) (append_assoc x (42 ∷ 47 ∷ s) r) ∙ skip_block (s ++ r) i ∙ skip_blanks r b

-- a `//` comment that the end closes is passed over
pub skip_open : {x : List ℕ} → Each (λ d. not (is_terminator d)) x → skip Mode.line x ≡ got tt []
unfolding skip
skip_open no_char = refl
skip_open (char {c = d} n k) = rw (not-true (is_terminator d) n) (skip_open k)

-- nothing is left at the end
pub skip_end : skip between [] ≡ got tt []
unfolding skip
skip_end = refl

-- blanks at the end are passed over
pub skip_last : {w : List ℕ} → LastBlanks w → skip between w ≡ got tt []
unfolding skip
skip_last (LastBlanks.blanks {w = w} b) = ap (skip between) (sym (append-nil w)) ∙ skip_blanks [] b
skip_last (open_line {x = x} b n) = skip_blanks (47 ∷ 47 ∷ x) b ∙ skip_slash (47 ∷ x) ∙ skip_open n

-- blanks before r are passed over
pub skip_gap : {w r : List ℕ} → Gap w r → skip between (w ++ r) ≡ skip between r
skip_gap {r = r} (Gap.blanks b) = skip_blanks r b
skip_gap (at_end {w = w} l) = ap (skip between) (append-nil w) ∙ skip_last l ∙ sym skip_end

-- nothing is passed over before a character that is neither blank nor a slash
pub skip_solid : (c : ℕ) (r : List ℕ) → is_blank c ≡ false → (c == 47) ≡ false → skip between (c ∷ r) ≡ got tt (c ∷ r)
unfolding skip
skip_solid c r b s = rw (b, s)

-- a solid character is no blank and no slash
pub solid_parts : (c : ℕ) → is_solid c ≡ true → (is_blank c ≡ false) × ((c == 47) ≡ false)
solid_parts c h = by_parts (is_blank c) (c == 47) h
  where
    by_parts : (a b : Bool) → not (a || b) ≡ true → (a ≡ false) × (b ≡ false)
    by_parts true b h = absurd (cc)
    by_parts false true h = absurd (cc)
    by_parts false false h = (refl, refl)

-- a solid rest is left as it is
pub skip_rest : (r : List ℕ) → Solid r → skip between r ≡ got tt r
skip_rest [] h = skip_end
skip_rest (c ∷ r) h = let k = solid_parts c (not-false (is_solid c) h) in skip_solid c r k.0 k.1

-- ---- solid characters

-- and a character that is neither is solid
pub solid_from : (c : ℕ) → is_blank c ≡ false → (c == 47) ≡ false → is_solid c ≡ true
solid_from c h k = rw (h, k)

-- a character from `!` to `~` but `/` is solid
pub printable_solid : (c : ℕ) → is_in 33 126 c ≡ true → (c == 47) ≡ false → is_solid c ≡ true
printable_solid c h k = solid_from c (printable_no_blank c h) k

-- a text that begins with a solid character is solid
pub begins_solid : (c : ℕ) (r : List ℕ) → is_solid c ≡ true → Solid (c ∷ r)
begins_solid c r h = ap not h
