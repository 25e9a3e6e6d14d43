-- The ASCII characters of names.
use Rattle.std.proofs.Common.{◌≡◌, ℕ, zero, suc, ◌+◌, ◌<◌, ◌≤◌, ◌≢◌, Bool, true, false, not, ◌&&◌, ◌||◌, List, ◌++◌, length, drop, refl, ap, sym, ◌∙◌, arith}
use Rattle.std.specs.Prelude.{◌==◌}
use Rattle.std.specs.List.{prefix_len, take_while}
use Rattle.std.specs.Str.{chars}
use Rattle.std.proofs.lemmas.Bool.Decides.{nat_tests}
use Rattle.std.proofs.lemmas.List.{length-take}
use Rattle.std.proofs.lemmas.List.Sums.{prefix_len-le-length}
use Rattle.unicode.specs.GeneralCategory.{general_category}
use Rattle.ucd_table.specs.Rows.{value_in}
use Rattle.ucd_category.specs.GeneralCategoryRows.{general_category_rows}
use Rattle.json5_grammar.specs.Language.Characters.{is_in, is_start_category, is_part_category, is_identifier_start, is_identifier_part, Each, no_char, char}
use Rattle.json5_grammar.specs.Model.ReadNumbers.{front_of, rest_of}
use Rattle.json5_grammar.proofs.CommonLemmas.{eq_from, neq_from}
use Rattle.json5_grammar.proofs.CharacterTests.{front_each}
use Rattle.json5_tokens.specs.ByteRuns.{is_ascii_start, is_ascii_part}
use Rattle.json5_tokens.specs.Scan.{SkipsSome}
use Rattle.json5_tokens.specs.ScanTexts.{is_raw_part}
use Rattle.json5_types.proofs.AsciiRuns.{PassesAscii, chars_split, rest_cut, rest_shorter}

-- ---- the classes of the first 128 characters, computed

same : Bool → Bool → Bool
same true b = b
same false b = not b

same_is : (a b : Bool) → same a b ≡ true → a ≡ b
unfolding same
same_is true true h = refl
same_is true false h = absurd (cc)
same_is false true h = absurd (cc)
same_is false false h = refl

-- two tests agree on n characters from low on
agree : (ℕ → Bool) → (ℕ → Bool) → ℕ → ℕ → Bool
agree f g low zero = true
agree f g low (suc n) = same (f low) (g low) && agree f g (suc low) n

agree_holds : (f g : ℕ → Bool) (n low c : ℕ) → agree f g low n ≡ true → low ≤ c → c < low + n → f c ≡ g c
unfolding agree
agree_holds f g zero low c h a b = absurd (omega arith)
agree_holds f g (suc n) low c h a b = split (same (f low) (g low)) refl h (c == low) refl (λ k e. agree_holds f g n (suc low) c k (past e) (omega arith))
  where
    split : (s : Bool) → same (f low) (g low) ≡ s → (s && agree f g (suc low) n) ≡ true → (e : Bool) → (c == low) ≡ e
        → (agree f g (suc low) n ≡ true → (c == low) ≡ false → f c ≡ g c) → f c ≡ g c
    split false k h e i next = absurd (cc)
    split true k h true i next = let at : c ≡ low = eq_from c low i in rw at (same_is (f low) (g low) k)
    split true k h false i next = next h i

    past : (c == low) ≡ false → suc low ≤ c
    past e = let ne : c ≢ low = neq_from c low e in omega arith

starts_checked : agree is_identifier_start is_ascii_start 0 128 ≡ true
unfolding agree same is_identifier_start general_category value_in general_category_rows
starts_checked = refl

parts_checked : agree is_identifier_part is_ascii_part 0 128 ≡ true
unfolding agree same is_identifier_part is_identifier_start general_category value_in general_category_rows
parts_checked = refl

pub ascii_start : (c : ℕ) → c < 128 → is_identifier_start c ≡ is_ascii_start c
ascii_start c h = agree_holds is_identifier_start is_ascii_start 128 0 c starts_checked (omega arith) h

pub ascii_part : (c : ℕ) → c < 128 → is_identifier_part c ≡ is_ascii_part c
ascii_part c h = agree_holds is_identifier_part is_ascii_part 128 0 c parts_checked (omega arith) h

-- ---- the classes past them

no_sign : (c : ℕ) → 128 ≤ c → ((c == 36) ≡ false) × ((c == 95) ≡ false)
no_sign c h = (grind (arith, nat_tests), grind (arith, nat_tests))

pub start_past : (c : ℕ) → 128 ≤ c → is_identifier_start c ≡ is_start_category (general_category c)
unfolding is_identifier_start
start_past c h = let k = no_sign c h in rw (k.0, k.1) refl

pub part_past : (c : ℕ) → 128 ≤ c → is_identifier_part c ≡ (is_start_category (general_category c) || (is_in 0x200C 0x200D c || is_part_category (general_category c)))
unfolding is_identifier_part
part_past c h = let k = start_past c h in rw k refl

-- ---- a run of them

pub parts_ascii : PassesAscii is_ascii_part
parts_ascii c h = grind (arith, nat_tests)

raw_from : (c : ℕ) → is_ascii_part c ≡ true → is_raw_part c ≡ true
raw_from c h =
    let low = parts_ascii c h in
    let other : (c == 92) ≡ false = grind (arith, nat_tests) in
    rw (other, ascii_part c low) h

each_raw : {s : List ℕ} → Each is_ascii_part s → Each is_raw_part s
each_raw no_char = no_char
each_raw (char {c = c} h e) = char (raw_from c h) (each_raw e)

pub parts_counted : (s : List ℕ) (n : ℕ) → n ≡ prefix_len is_ascii_part s → n ≡ length (take_while is_ascii_part s)
parts_counted s n e = let k = length-take (prefix_len is_ascii_part s) s in let l = prefix_len-le-length is_ascii_part s in omega (arith, e, k, l)

pub parts_passed : (s r : List ℕ) (n : ℕ) → n ≡ length (take_while is_ascii_part s) → r ≡ drop n s → SkipsSome is_raw_part s r
parts_passed s r n e d =
    let cut : r ≡ rest_of is_ascii_part s = d ∙ rest_cut is_ascii_part s n e in
    record {
      passed = front_of is_ascii_part s;
      split = chars_split is_ascii_part s parts_ascii ∙ ap (λ z. front_of is_ascii_part s ++ chars z) (sym cut);
      each = each_raw (front_each is_ascii_part s);
      shorter = let k = rest_shorter is_ascii_part s in let l = ap length cut in omega (arith, k, l);
    }
