-- Characters of one class that aren't of another, and what lengthens no value.
use Rattle.std.proofs.Common.{◌≡◌, ℕ, Bool, true, false, ◌&&◌, ◌||◌, List, [], ◌∷◌, refl, ap, sym, ◌∙◌, arith, ◌⊎◌, inl, inr, subst}
use Rattle.std.specs.Prelude.{◌==◌, if◌then◌else◌}
use Rattle.std.proofs.lemmas.Bool.{both_ways}
use Rattle.std.proofs.lemmas.Bool.Decides.{nat_tests}
use Rattle.unicode.specs.GeneralCategory.{general_category}
use Rattle.ucd_category.specs.declared.GeneralCategory.{GeneralCategory}
use Rattle.ucd_category.specs.declared.GeneralCategory.TheVariants as category
use Rattle.ucd_table.specs.Rows.{value_in}
use Rattle.ucd_category.specs.GeneralCategoryRows.{general_category_rows}
use Rattle.json5_grammar.specs.Language.Characters.{is_in, is_space_category, is_start_category, is_part_category, is_space_separator, is_blank, is_hex_digit, is_identifier_start, is_identifier_part}
use Rattle.json5_grammar.specs.Language.Names.{goes_on_name}
use Rattle.json5_grammar.specs.Language.Numbers.{hex_start, in_run, after_zero, begins_run, lengthens_body, lengthens}
use Rattle.json5_grammar.specs.Faults.Tokens.{is_sign, begins_number}
use Rattle.json5_grammar.specs.Language.Strings.{is_quote}
use Rattle.json5_grammar.specs.Faults.{begins_value}
use Rattle.json5_grammar.proofs.CommonLemmas.{eq_from}
use Rattle.json5_grammar.proofs.BlanksRead.{printable_no_space, printable_no_blank}

-- ---- blanks

-- a blank is one of ten characters or a space
blank_cases : (P : ℕ → Type 0) → P 9 → P 10 → P 11 → P 12 → P 13 → P 32 → P 0xA0 → P 0x2028 → P 0x2029 → P 0xFEFF → ((c : ℕ) → is_space_separator c ≡ true → P c) → (c : ℕ) → is_blank c ≡ true → P c
blank_cases P p9 p10 p11 p12 p13 p32 pa0 p28 p29 pfe spaces c h =
    is 9 p9 (λ n9. is 10 p10 (λ n10. is 11 p11 (λ n11. is 12 p12 (λ n12. is 13 p13 (λ n13. is 32 p32 (λ n32. is 0xA0 pa0 (λ na0. is 0x2028 p28 (λ n28. is 0x2029 p29 (λ n29. is 0xFEFF pfe (λ nfe.
    spaces c (left c (is_space_separator c) n9 n10 n11 n12 n13 n32 na0 n28 n29 nfe h)))))))))))
  where
    is : (d : ℕ) → P d → ((c == d) ≡ false → P c) → P c
    is d p f = split (c == d) refl
      where
        split : (b : Bool) → (c == d) ≡ b → P c
        split true e = subst P (sym (eq_from c d e)) p
        split false e = f e

    left : (c : ℕ) (s : Bool) → (c == 9) ≡ false → (c == 10) ≡ false → (c == 11) ≡ false → (c == 12) ≡ false → (c == 13) ≡ false → (c == 32) ≡ false → (c == 0xA0) ≡ false → (c == 0x2028) ≡ false → (c == 0x2029) ≡ false → (c == 0xFEFF) ≡ false
        → (is_in 9 13 c || ((c == 0x20) || ((c == 0xA0) || ((c == 0x2028) || ((c == 0x2029) || ((c == 0xFEFF) || s)))))) ≡ true → s ≡ true
    left c true n9 n10 n11 n12 n13 n32 na0 n28 n29 nfe h = refl
    left c false n9 n10 n11 n12 n13 n32 na0 n28 n29 nfe h = grind (arith, nat_tests)

space_category : (g : GeneralCategory) → is_space_category g ≡ true → (is_start_category g ≡ false) × (is_part_category g ≡ false)
space_category category.SpaceSeparator h = (refl, refl)
space_category _ h = absurd (cc)

-- the joiners of names are no spaces
joiners : (is_space_separator 0x200C ≡ false) × (is_space_separator 0x200D ≡ false)
unfolding is_space_separator general_category value_in general_category_rows
joiners = (refl, refl)

no_joiner : (c : ℕ) → is_space_separator c ≡ true → is_in 0x200C 0x200D c ≡ false
no_joiner c h = by_values (is_in 0x200C 0x200D c) refl
  where
    cases : (c : ℕ) → is_in 0x200C 0x200D c ≡ true → (c ≡ 0x200C) ⊎ (c ≡ 0x200D)
    cases c h = grind (arith, nat_tests)

    clash : (c ≡ 0x200C) ⊎ (c ≡ 0x200D) → ⊥
    clash (inl e) = both_ways (is_space_separator c) (ap is_space_separator e ∙ joiners.0) h
    clash (inr e) = both_ways (is_space_separator c) (ap is_space_separator e ∙ joiners.1) h

    by_values : (b : Bool) → is_in 0x200C 0x200D c ≡ b → is_in 0x200C 0x200D c ≡ false
    by_values true e = absurd (clash (cases c e))
    by_values false e = e

no_printable : (c : ℕ) → is_space_separator c ≡ true → is_in 33 126 c ≡ false
no_printable c h = by_values (is_in 33 126 c) refl
  where
    by_values : (b : Bool) → is_in 33 126 c ≡ b → is_in 33 126 c ≡ false
    by_values true e = absurd (both_ways (is_space_separator c) (printable_no_space c e) h)
    by_values false e = e

space_no_name : (c : ℕ) → is_space_separator c ≡ true → goes_on_name c ≡ false
unfolding is_space_separator is_identifier_start is_identifier_part
space_no_name c h =
    let g = space_category (general_category c) h in
    let p = names c (no_printable c h) in
    rw (p.0, p.1, p.2, no_joiner c h, g.0, g.1) refl
  where
    names : (c : ℕ) → is_in 33 126 c ≡ false → ((c == 0x24) ≡ false) × ((c == 0x5F) ≡ false) × ((c == 0x5C) ≡ false)
    names c h = (grind (arith, nat_tests), grind (arith, nat_tests), grind (arith, nat_tests))

-- a blank goes on no name
pub blank_no_name : (c : ℕ) → is_blank c ≡ true → goes_on_name c ≡ false
unfolding is_identifier_start is_identifier_part general_category value_in general_category_rows
blank_no_name c h = blank_cases (λ z. goes_on_name z ≡ false) refl refl refl refl refl refl refl refl refl refl space_no_name c h

-- a colon goes on no name
pub colon_no_name : goes_on_name 58 ≡ false
unfolding is_identifier_start is_identifier_part general_category value_in general_category_rows
colon_no_name = refl

-- a slash goes on no name
pub slash_no_name : goes_on_name 47 ≡ false
unfolding is_identifier_start is_identifier_part general_category value_in general_category_rows
slash_no_name = refl

brace_no_name : goes_on_name 125 ≡ false
unfolding is_identifier_start is_identifier_part general_category value_in general_category_rows
brace_no_name = refl

start_goes_on : (c : ℕ) → is_identifier_start c ≡ true → goes_on_name c ≡ true
unfolding is_identifier_part
start_goes_on c h = rw h

-- a character that begins a name is no blank
pub start_no_blank : (c : ℕ) → is_identifier_start c ≡ true → is_blank c ≡ false
start_no_blank c h = by_values (is_blank c) refl
  where
    by_values : (b : Bool) → is_blank c ≡ b → is_blank c ≡ false
    by_values true e = absurd (both_ways (goes_on_name c) (blank_no_name c e) (start_goes_on c h))
    by_values false e = e

start_is_not : (c d : ℕ) → is_identifier_start c ≡ true → goes_on_name d ≡ false → (c == d) ≡ false
start_is_not c d h n = by_values (c == d) refl
  where
    by_values : (b : Bool) → (c == d) ≡ b → (c == d) ≡ false
    by_values true e = absurd (both_ways (goes_on_name c) (ap goes_on_name (eq_from c d e) ∙ n) (start_goes_on c h))
    by_values false e = e

-- a character that begins a name is no slash
pub start_no_slash : (c : ℕ) → is_identifier_start c ≡ true → (c == 47) ≡ false
start_no_slash c h = start_is_not c 47 h slash_no_name

-- a character that begins a name is no closing brace
pub start_no_brace : (c : ℕ) → is_identifier_start c ≡ true → (c == 125) ≡ false
start_no_brace c h = start_is_not c 125 h brace_no_name

-- a blank isn't printable
pub blank_no_printable : (c : ℕ) → is_blank c ≡ true → is_in 33 126 c ≡ false
blank_no_printable c h = by_values (is_in 33 126 c) refl
  where
    by_values : (b : Bool) → is_in 33 126 c ≡ b → is_in 33 126 c ≡ false
    by_values true e = absurd (both_ways (is_blank c) (printable_no_blank c e) h)
    by_values false e = e

-- ---- what lengthens no value

-- no value is lengthened by the character
abbrev pub EndsValues : ℕ → Type 0
EndsValues c = (s : List ℕ) → lengthens s c ≡ false

then_false : (a b : Bool) → (if a then false else (b && false)) ≡ false
then_false true b = refl
then_false false true = refl
then_false false false = refl

no_body : (s : List ℕ) (c : ℕ) → after_zero c ≡ false → in_run c ≡ false → is_hex_digit c ≡ false → lengthens_body s c ≡ false
no_body [] c z i h = refl
no_body (a ∷ []) c z i h = rw (z, i) (then_false (a == 48) (begins_run a))
no_body (a ∷ b ∷ s) c z i h = rw (h, i) (then_false ((a == 48) && hex_start b) (begins_run a))

-- a character that is in no run, after no zero and no hexadecimal digit lengthens no value
pub ends_values : (c : ℕ) → after_zero c ≡ false → in_run c ≡ false → is_hex_digit c ≡ false → EndsValues c
ends_values c z i h [] = refl
ends_values c z i h (a ∷ s) = rw (no_body s c z i h, no_body (a ∷ s) c z i h) (same (is_sign a))
  where
    same : (b : Bool) → (if b then false else false) ≡ false
    same true = refl
    same false = refl

-- a blank lengthens no value
pub blank_ends_values : (c : ℕ) → is_blank c ≡ true → EndsValues c
blank_ends_values c h = let k = tests c (blank_no_printable c h) in ends_values c k.0 k.1 k.2
  where
    tests : (c : ℕ) → is_in 33 126 c ≡ false → (after_zero c ≡ false) × (in_run c ≡ false) × (is_hex_digit c ≡ false)
    tests c h = (grind (arith, nat_tests), grind (arith, nat_tests), grind (arith, nat_tests))

-- a slash lengthens no value
pub slash_ends_values : EndsValues 47
slash_ends_values = ends_values 47 refl refl refl

-- a comma lengthens no value
pub comma_ends_values : EndsValues 44
comma_ends_values = ends_values 44 refl refl refl

-- a closing bracket lengthens no value
pub bracket_ends_values : EndsValues 93
bracket_ends_values = ends_values 93 refl refl refl

-- a closing brace lengthens no value
pub brace_ends_values : EndsValues 125
brace_ends_values = ends_values 125 refl refl refl

-- ---- the character that begins a value

-- a character that begins a value is one from `!` to `~`
pub begins_printable : (c : ℕ) → begins_value c ≡ true → is_in 33 126 c ≡ true
begins_printable c h = grind (arith, nat_tests)

-- a character that begins a value is no slash, comma, colon or closing bracket
pub begins_others : (c : ℕ) → begins_value c ≡ true → ((c == 47) ≡ false) × ((c == 44) ≡ false) × ((c == 58) ≡ false) × ((c == 93) ≡ false) × ((c == 125) ≡ false)
begins_others c h = (grind (arith, nat_tests), grind (arith, nat_tests), grind (arith, nat_tests), grind (arith, nat_tests), grind (arith, nat_tests))

-- a number's first character begins a value
pub number_begins : (c : ℕ) → (is_sign c || begins_number c) ≡ true → begins_value c ≡ true
number_begins c h = grind (arith, nat_tests)

-- a quote begins a value
pub quote_begins : (c : ℕ) → is_quote c ≡ true → begins_value c ≡ true
quote_begins c h = grind (arith, nat_tests)

-- a number's first character begins no word and is no quote
pub number_others : (c : ℕ) → (is_sign c || begins_number c) ≡ true → ((c == 110) ≡ false) × ((c == 116) ≡ false) × ((c == 102) ≡ false) × (is_quote c ≡ false)
number_others c h = (grind (arith, nat_tests), grind (arith, nat_tests), grind (arith, nat_tests), grind (arith, nat_tests))

-- a quote begins no word
pub quote_others : (c : ℕ) → is_quote c ≡ true → ((c == 110) ≡ false) × ((c == 116) ≡ false) × ((c == 102) ≡ false)
quote_others c h = (grind (arith, nat_tests), grind (arith, nat_tests), grind (arith, nat_tests))
