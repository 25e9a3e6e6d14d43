-- Strings of letters, digits, points and minus between quotes, and as keys.
use Rattle.std.proofs.Common.{◌≡◌, ◌≤◌, ◌<◌, ℕ, zero, suc, ◌+◌, List, [], ◌∷◌, ◌++◌, Bool, true, false, ◌&&◌, ◌||◌, ◌==◌, not, nat_le, nat_lt, cond, if◌then◌else◌, ◌-◌, length, take, drop, refl, sym, ap, ◌∙◌, arith}
use Rattle.std.specs.Prelude.{ℤ, pos, negsuc}
use Rattle.std.specs.List.{list_all, list_any}
use Rattle.std.proofs.lemmas.Bool.{and_parts, false≢true}
use Rattle.std.proofs.lemmas.Bool.Decides.{nat_tests}
use Rattle.ucd_category.specs.GeneralCategory.{general_category}
use Rattle.ucd_table.specs.Rows.{value_in}
use Rattle.ucd_category.specs.GeneralCategoryRows.{general_category_rows}
use lib.Chars.{codes}
use Rattle.json5_grammar.specs.Language.Characters.{is_digit, is_identifier_start, is_identifier_part, Each, char}
use Rattle.json5_grammar.specs.Language.Numbers.{Decimal, infinite, nan, finite}
use Rattle.json5_grammar.specs.Written.NumberText.{zeros, digits_text, decimal_text, Normal}
use Rattle.json5_grammar.specs.Written.Quoting.{escaped, escaped_all, quote_for, quoted_text, is_name, key_text}
use Rattle.json5_types.specs.NumberDecimals.{has_minus, is_infinity, is_not_a_number}
use Rattle.json5_write.proofs.DecimalPieces.{is_spelling, is_spelled, ascii_decimal}

-- ---- no character is escaped

other_sign : (c d : ℕ) → is_spelling c ≡ true → is_spelling d ≡ false → (c == d) ≡ false
other_sign c d h k = by_values (c == d) refl
  where
    by_values : (b : Bool) → (c == d) ≡ b → (c == d) ≡ false
    by_values true e = let same : c ≡ d = grind (arith, nat_tests) in absurd (false≢true (sym k ∙ (ap is_spelling (sym same) ∙ h)))
    by_values false e = e

stands : (c : ℕ) → is_spelling c ≡ true → escaped 34 c ≡ c ∷ []
stands c h =
    let q : (c == 34) ≡ false = other_sign c 34 h refl in
    let b : (c == 92) ≡ false = other_sign c 92 h refl in
    let l : (c == 10) ≡ false = other_sign c 10 h refl in
    let r : (c == 13) ≡ false = other_sign c 13 h refl in
    let s : (c == 8232) ≡ false = other_sign c 8232 h refl in
    let p : (c == 8233) ≡ false = other_sign c 8233 h refl in
    rw (q, b, l, r, s, p)

all_stand : (t : List ℕ) → is_spelled t ≡ true → escaped_all 34 t ≡ t
all_stand [] h = refl
all_stand (c ∷ t) h =
    let p = and_parts (is_spelling c) (is_spelled t) h in ap (λ l. l ++ escaped_all 34 t) (stands c p.0) ∙ ap (λ l. c ∷ l) (all_stand t p.1)

no_quote : (t : List ℕ) → is_spelled t ≡ true → list_any (λ c. c == 34) t ≡ false
no_quote [] h = refl
no_quote (c ∷ t) h = let p = and_parts (is_spelling c) (is_spelled t) h in ap (λ b. b || list_any (λ x. x == 34) t) (other_sign c 34 p.0 refl) ∙ no_quote t p.1

quote_is : (t : List ℕ) → is_spelled t ≡ true → quote_for t ≡ 34
quote_is t h = ap (λ b. if b && not (list_any (λ c. c == 39) t) then 39 else 34) (no_quote t h)

pub spelled_quoted : (t : List ℕ) → is_spelled t ≡ true → quoted_text t ≡ 34 ∷ t ++ 34 ∷ []
spelled_quoted t h = ap (λ q. q ∷ escaped_all q t ++ q ∷ []) (quote_is t h) ∙ ap (λ l. 34 ∷ l ++ 34 ∷ []) (all_stand t h)

-- ---- which are identifiers

abbrev pub run : ℕ → ℕ → List ℕ
run low zero = []
run low (suc n) = low ∷ run (suc low) n

pub not_in_run : (f : ℕ → Bool) (low n c : ℕ) → list_all (λ x. not (f x)) (run low n) ≡ true → low ≤ c → c < low + n → f c ≡ false
not_in_run f low zero c e l h = absurd (omega arith)
not_in_run f low (suc n) c e l h = by_values (c == low) refl (λ m. not_in_run f (suc low) n c p.1 m (omega arith))
  where
    p : (not (f low) ≡ true) × (list_all (λ x. not (f x)) (run (suc low) n) ≡ true)
    p = and_parts (not (f low)) (list_all (λ x. not (f x)) (run (suc low) n)) e

    negated : (b : Bool) → not b ≡ true → b ≡ false
    negated true k = absurd (cc)
    negated false k = refl

    by_values : (b : Bool) → (c == low) ≡ b → (suc low ≤ c → f c ≡ false) → f c ≡ false
    by_values true k more = let same : c ≡ low = grind (arith, nat_tests) in ap f same ∙ negated (f low) p.0
    by_values false k more = more (grind (arith, nat_tests))

none_starts : list_all (λ x. not (is_identifier_start x)) (run 45 13) ≡ true
unfolding is_identifier_start general_category value_in general_category_rows
none_starts = refl

-- it begins with a minus, a point, or a digit
abbrev low_head : List ℕ → Bool
low_head [] = false
low_head (c ∷ t) = nat_le 45 c && nat_le c 57

no_name_from : (t : List ℕ) → low_head t ≡ true → is_name t ≡ false
no_name_from [] h = refl
no_name_from (c ∷ t) h = ap (λ b. b && list_all is_identifier_part t) (not_in_run is_identifier_start 45 13 c none_starts (grind arith) (grind arith))

words_are_names : (is_name (codes "Infinity") ≡ true) × (is_name (codes "NaN") ≡ true)
unfolding is_identifier_start is_identifier_part general_category value_in general_category_rows
words_are_names = (refl, refl)

low_digit : (d : ℕ) → is_digit d ≡ true → (nat_le 45 d && nat_le d 57) ≡ true
low_digit d h = grind arith

low_take : (n d : ℕ) (ds t : List ℕ) → is_digit d ≡ true → low_head (take n (d ∷ ds) ++ 46 ∷ t) ≡ true
low_take zero d ds t h = refl
low_take (suc n) d ds t h = low_digit d h

low_by : (b : Bool) (s t : List ℕ) → low_head s ≡ true → low_head t ≡ true → low_head (cond b s t) ≡ true
low_by true s t h k = h
low_by false s t h k = k

low_digits : (ds : List ℕ) (e : ℤ) → Each is_digit ds → low_head (digits_text ds e) ≡ true
low_digits [] e h = refl
low_digits (d ∷ ds) (pos k) (char h hs) = low_digit d h
low_digits (d ∷ ds) (negsuc k) (char h hs) =
    let n = length (d ∷ ds) in
    let j = suc k in
    low_by (nat_lt j n) (take (n - j) (d ∷ ds) ++ 46 ∷ drop (n - j) (d ∷ ds)) (48 ∷ 46 ∷ (zeros (j - n) ++ (d ∷ ds))) (low_take (n - j) d ds (drop (n - j) (d ∷ ds)) h) refl

-- infinity and not-a-number without a minus, and no other
pub decimal_name : (d : Decimal) → Normal d → is_name (decimal_text d) ≡ (not (has_minus d) && (is_infinity d || is_not_a_number d))
decimal_name (infinite true) n = no_name_from (decimal_text (infinite true)) refl
decimal_name (infinite false) n = words_are_names.0
decimal_name (nan true) n = no_name_from (decimal_text (nan true)) refl
decimal_name (nan false) n = words_are_names.1
decimal_name (finite true ds e) n = no_name_from (decimal_text (finite true ds e)) refl
decimal_name (finite false ds e) n = no_name_from (digits_text ds e) (low_digits ds e n.digits)

pub bare_name : (t : List ℕ) → is_name t ≡ true → key_text t ≡ t
bare_name t h = ap (λ b. if b then t else quoted_text t) h

pub quoted_name : (t : List ℕ) → is_name t ≡ false → key_text t ≡ quoted_text t
quoted_name t h = ap (λ b. if b then t else quoted_text t) h

pub bare_key : (d : Decimal) → is_name (decimal_text d) ≡ true → key_text (decimal_text d) ≡ decimal_text d
bare_key d h = bare_name (decimal_text d) h

pub quoted_key : (d : Decimal) → Normal d → is_name (decimal_text d) ≡ false → key_text (decimal_text d) ≡ 34 ∷ decimal_text d ++ 34 ∷ []
quoted_key d n h = quoted_name (decimal_text d) h ∙ spelled_quoted (decimal_text d) (ascii_decimal d n)

pub minus_no_name : (d : Decimal) (m : Bool) → Normal d → m ≡ has_minus d → m ≡ true → is_name (decimal_text d) ≡ false
minus_no_name d m n e h = decimal_name d n ∙ ap (λ b. not b && (is_infinity d || is_not_a_number d)) (sym e ∙ h)

pub infinite_is_name : (d : Decimal) (m i : Bool) → Normal d → m ≡ has_minus d → m ≡ false → i ≡ is_infinity d → i ≡ true → is_name (decimal_text d) ≡ true
infinite_is_name d m i n e h f k = decimal_name d n ∙ (ap (λ b. not b && (is_infinity d || is_not_a_number d)) (sym e ∙ h) ∙ ap (λ b. b || is_not_a_number d) (sym f ∙ k))

pub nan_is_name : (d : Decimal) (m i k : Bool) → Normal d → m ≡ has_minus d → m ≡ false → i ≡ is_infinity d → i ≡ false → k ≡ is_not_a_number d → is_name (decimal_text d) ≡ k
nan_is_name d m i k n e h f g j = decimal_name d n ∙ (ap (λ b. not b && (is_infinity d || is_not_a_number d)) (sym e ∙ h) ∙ (ap (λ b. b || is_not_a_number d) (sym f ∙ g) ∙ sym j))
