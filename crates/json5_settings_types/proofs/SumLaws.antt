-- The texts that are sums are those of the relation.
use Rattle.std.proofs.Common.{◌≡◌, ◌∙◌, ◌+◌, ◌*◌, ◌<◌, ◌^◌, ◌&&◌, ◌||◌, ℕ, Bool, true, false, List, [], ◌∷◌, ◌++◌, Option, Some, None, length, refl, sym, ap, arith, rules, tests, subst}
use Rattle.std.specs.Prelude.{not, nat_lt, if◌then◌else◌}
use Rattle.std.specs.Char.{is_ascii_digit}
use Rattle.std.specs.Int.{IsInRange}
use Rattle.std.specs.List.{prefix_len}
use Rattle.std.specs.Str.{bytes_eq}
use Rattle.std.specs.Str.Parse.{AllDigits, IsNumeral, digits_value}
use Rattle.std.proofs.lemmas.Bool.Decides.{nat_tests}
use Rattle.std.proofs.lemmas.Bool.{false≢true}
use Rattle.std.proofs.lemmas.List.{take-append-drop}
use Rattle.std.proofs.lemmas.Slice.Eq.{bytes_eq-Decides}
use Rattle.std.proofs.Math.Seq.{drop-append_seam, take-append_seam}
use Rattle.std.proofs.lemmas.Str.Parse.{tells_digits}
use Rattle.json5_settings_types.specs.Sums.{IsSum, Measure, after_digits, after_word, begins_with, comes_to, front_digits, front_word, if_below, is_no_digit, is_part_of, part, plus, sum_of, without, nothing}
use Rattle.json5_settings_types.proofs.SumsRead.{digits_in_front, some_digit}

-- ---- a part in front is found

is_digit : (c : ℕ) → IsInRange 48 57 c → is_ascii_digit c ≡ true
is_digit c is = search (rules, tests)

-- digits, and then no digit
counts_digits : (digits tail : List ℕ) → AllDigits 10 digits → prefix_len is_ascii_digit tail ≡ 0 → prefix_len is_ascii_digit (digits ++ tail) ≡ length digits
counts_digits [] tail are none = none
counts_digits (c ∷ cs) tail are none =
    let (first, others) = tells_digits.parts c cs are in
    rw (is_digit c first, counts_digits cs tail others none) (omega arith)

-- ---- units that can be told apart

abbrev pub no_digits : List ℕ → Bool
no_digits [] = true
no_digits (c ∷ cs) = is_no_digit c && no_digits cs

abbrev pub is_name : List ℕ → Bool
is_name [] = false
is_name (c ∷ cs) = no_digits (c ∷ cs)

abbrev pub is_named : List Measure → List ℕ → Bool
is_named [] name = false
is_named (u ∷ us) name = bytes_eq name u.name || is_named us name

-- names without digits, of which no two are equal
abbrev pub are_units : List Measure → Bool
are_units [] = true
are_units (u ∷ us) = is_name u.name && (not (is_named us u.name) && are_units us)

pub and_both : (a b : Bool) → a && b ≡ true → (a ≡ true) × (b ≡ true)
and_both true b both = (refl, both)
and_both false b both = absurd (false≢true both)

not_true : (b : Bool) → not b ≡ true → b ≡ false
not_true true is = absurd (cc)
not_true false is = refl

-- letters, and then a digit or the end
counts_letters : (word tail : List ℕ) → no_digits word ≡ true → prefix_len is_no_digit tail ≡ 0 → prefix_len is_no_digit (word ++ tail) ≡ length word
counts_letters [] tail are none = none
counts_letters (c ∷ cs) tail are none =
    let (first, others) = and_both (is_no_digit c) (no_digits cs) are in
    rw (first, counts_letters cs tail others none) (omega arith)

no_digit_first : (c : ℕ) → is_no_digit c ≡ true → is_ascii_digit c ≡ false
no_digit_first c is = not_true (is_ascii_digit c) is

-- a name has no digit in front
name_first : (name tail : List ℕ) → is_name name ≡ true → prefix_len is_ascii_digit (name ++ tail) ≡ 0
name_first [] tail is = absurd (false≢true is)
name_first (c ∷ cs) tail is = let (first, others) = and_both (is_no_digit c) (no_digits cs) is in rw (no_digit_first c first) refl

name_letters : (name : List ℕ) → is_name name ≡ true → no_digits name ≡ true
name_letters [] is = absurd (false≢true is)
name_letters (c ∷ cs) is = is

-- digits have a digit in front
digits_first : (digits tail : List ℕ) → IsNumeral 10 digits → prefix_len is_no_digit (digits ++ tail) ≡ 0
digits_first [] tail is = absurd (omega (arith, is.0))
digits_first (c ∷ cs) tail is = let first = is_digit c (tells_digits.parts c cs is.1).0 in rw first refl

-- ---- a part that stands in front

module _ (digits name tail : List ℕ) (numeral : IsNumeral 10 digits) (named : is_name name ≡ true) (next : prefix_len is_no_digit tail ≡ 0) where
  part_digits : front_digits (digits ++ (name ++ tail)) ≡ digits
  part_digits = let n : prefix_len is_ascii_digit (digits ++ (name ++ tail)) ≡ length digits = counts_digits digits (name ++ tail) numeral.1 (name_first name tail named) in rw n (take-append_seam digits (name ++ tail))

  part_after : after_digits (digits ++ (name ++ tail)) ≡ name ++ tail
  part_after = let n : prefix_len is_ascii_digit (digits ++ (name ++ tail)) ≡ length digits = counts_digits digits (name ++ tail) numeral.1 (name_first name tail named) in rw n (drop-append_seam digits (name ++ tail))

  part_word : front_word (name ++ tail) ≡ name
  part_word = let n : prefix_len is_no_digit (name ++ tail) ≡ length name = counts_letters name tail (name_letters name named) next in rw n (take-append_seam name tail)

  part_tail : after_word (name ++ tail) ≡ tail
  part_tail = let n : prefix_len is_no_digit (name ++ tail) ≡ length name = counts_letters name tail (name_letters name named) next in rw n (drop-append_seam name tail)

-- ---- from the relation

-- a sum begins with a digit, or is empty
sum_first : {us : List Measure} {text : List ℕ} {n : ℕ} → IsSum us text n → prefix_len is_no_digit text ≡ 0
sum_first nothing = refl
sum_first (without u rest) = sum_first rest
sum_first (part u digits {text = text} numeral rest) = digits_first digits (u.name ++ text) numeral

pub or_true : (a b : Bool) → a ≡ true → a || b ≡ true
or_true true b is = refl
or_true false b is = absurd (false≢true is)

pub or_second : (a b : Bool) → b ≡ true → a || b ≡ true
or_second true b is = refl
or_second false b is = is

equal : (name : List ℕ) → bytes_eq name name ≡ true
equal name = (bytes_eq-Decides name name).1 refl

same_name : (word name : List ℕ) → bytes_eq word name ≡ true → bytes_eq name word ≡ true
same_name word name is = let same : word ≡ name = (bytes_eq-Decides word name).0 is in (bytes_eq-Decides name word).1 (sym same)

-- the unit of the first part is one of these
pub sum_named : {us : List Measure} {text : List ℕ} {n : ℕ} → IsSum us text n → are_units us ≡ true → (name : List ℕ) → is_part_of name (front_digits text) (front_word (after_digits text)) ≡ true → is_named us name ≡ true
sum_named nothing units name is = absurd (false≢true is)
sum_named (without u {us = us} rest) units name is =
    let (named, others) = and_both (is_name u.name) (not (is_named us u.name) && are_units us) units in
    or_second (bytes_eq name u.name) (is_named us name) (sum_named rest (and_both (not (is_named us u.name)) (are_units us) others).1 name is)
sum_named (part u digits {us = us} {text = text} numeral rest) units name is =
    let (named, others) = and_both (is_name u.name) (not (is_named us u.name) && are_units us) units in
    let next = sum_first rest in
    let word = (and_both _ _ (rw (part_digits digits u.name text numeral named next, part_after digits u.name text numeral named next, part_word digits u.name text numeral named next) at is)).1 in
    or_true (bytes_eq name u.name) (is_named us name) (same_name u.name name word)

begins : (digits name : List ℕ) → IsNumeral 10 digits → is_part_of name digits name ≡ true
begins digits name numeral = let some : nat_lt 0 (length digits) ≡ true = grind (arith, nat_tests, numeral.0) in rw (some, equal name) refl

pub some_same : (m n : ℕ) → ◌≡◌ {A = Option ℕ} (Some m) (Some n) → m ≡ n
some_same m n is = cc

-- a text that a sum is, has that sum
pub sum_complete : {us : List Measure} {text : List ℕ} {n : ℕ} → IsSum us text n → are_units us ≡ true → sum_of us text ≡ Some n
unfolding sum_of
sum_complete nothing units = refl
sum_complete (without u {us = us} {text = text} {n = n} rest) units =
    let (named, others) = and_both (is_name u.name) (not (is_named us u.name) && are_units us) units in
    let (apart, same) = and_both (not (is_named us u.name)) (are_units us) others in
    by us u text n (begins_with u text) refl (sum_named rest same u.name) (not_true (is_named us u.name) apart) (sum_complete rest same)
  where
    by : (us : List Measure) (u : Measure) (text : List ℕ) (n : ℕ) (b : Bool) → begins_with u text ≡ b → (begins_with u text ≡ true → is_named us u.name ≡ true) → is_named us u.name ≡ false → sum_of us text ≡ Some n → sum_of (u ∷ us) text ≡ Some n
    by us u text n true is named apart whole = absurd (cc (named is, apart))
    by us u text n false is named apart whole = rw is whole
sum_complete (part u digits {us = us} {text = text} numeral rest) units =
    let (named, others) = and_both (is_name u.name) (not (is_named us u.name) && are_units us) units in
    let (apart, same) = and_both (not (is_named us u.name)) (are_units us) others in
    let next = sum_first rest in
    let found : begins_with u (digits ++ (u.name ++ text)) ≡ true = rw (part_digits digits u.name text numeral named next, part_after digits u.name text numeral named next, part_word digits u.name text numeral named next) (begins digits u.name numeral) in
    rw (found, part_digits digits u.name text numeral named next, part_after digits u.name text numeral named next, part_tail digits u.name text numeral named next, sum_complete rest same) refl

-- ---- to the relation

summed : (v m : ℕ) (o : Option ℕ) → plus v o ≡ Some m → (n : ℕ) × (o ≡ Some n) × (m ≡ v + n)
summed v m None is = absurd (cc)
summed v m (Some n) is = (n, refl, some_same m (v + n) (sym is))

-- the text is its front part, and what follows
whole : (text : List ℕ) → text ≡ front_digits text ++ (front_word (after_digits text) ++ after_word (after_digits text))
whole text =
    let word = take-append-drop (prefix_len is_no_digit (after_digits text)) (after_digits text) in
    let digits = take-append-drop (prefix_len is_ascii_digit text) text in
    sym (ap (λ rest. front_digits text ++ rest) word ∙ digits)

pub sum_sound : (us : List Measure) (text : List ℕ) (n : ℕ) → sum_of us text ≡ Some n → IsSum us text n
unfolding sum_of
sum_sound [] [] n is = subst (IsSum [] []) (some_same 0 n is) nothing
sum_sound [] (c ∷ cs) n is = absurd (cc)
sum_sound (u ∷ us) text n is = by (begins_with u text) refl (sum_sound us text n) (sum_sound us (after_word (after_digits text))) is
  where
    by : (b : Bool) → begins_with u text ≡ b → (sum_of us text ≡ Some n → IsSum us text n) → ((m : ℕ) → sum_of us (after_word (after_digits text)) ≡ Some m → IsSum us (after_word (after_digits text)) m)
        → (if b then plus (digits_value 10 (front_digits text) * u.size) (sum_of us (after_word (after_digits text))) else sum_of us text) ≡ Some n → IsSum (u ∷ us) text n
    by false none skipped taken is = without u (skipped is)
    by true found skipped taken is =
        let (m, rest, value) = summed (digits_value 10 (front_digits text) * u.size) n (sum_of us (after_word (after_digits text))) is in
        let (some, word) = and_both _ _ found in
        let name : front_word (after_digits text) ≡ u.name = (bytes_eq-Decides (front_word (after_digits text)) u.name).0 word in
        let numeral : IsNumeral 10 (front_digits text) = (some_digit (front_digits text) (bytes_eq (front_word (after_digits text)) u.name) found, digits_in_front text) in
        let there : text ≡ front_digits text ++ (u.name ++ after_word (after_digits text)) = whole text ∙ ap (λ w. front_digits text ++ (w ++ after_word (after_digits text))) name in
        subst (λ t. IsSum (u ∷ us) t n) (sym there) (subst (IsSum (u ∷ us) (front_digits text ++ (u.name ++ after_word (after_digits text)))) (sym value) (part u (front_digits text) numeral (taken m rest)))

-- ---- what a sum comes to

-- where nothing was read yet
pub nothing_yet : (o : Option ℕ) → plus 0 o ≡ o
nothing_yet None = refl
nothing_yet (Some n) = let same : 0 + n ≡ n = omega arith in ap (λ k. Some k) same

pub below : (m n : ℕ) → nat_lt m n ≡ true → m < n
below m n less = grind (arith, nat_tests, less)

within : (bound n : ℕ) (o : Option ℕ) → if_below bound o ≡ Some n → (o ≡ Some n) × (n < bound)
within bound n None is = absurd (cc)
within bound n (Some m) is = by (nat_lt m bound) refl is
  where
    by : (b : Bool) → nat_lt m bound ≡ b → (if b then Some m else None) ≡ Some n → (◌≡◌ {A = Option ℕ} (Some m) (Some n)) × (n < bound)
    by true less same = (same, subst (λ k. k < bound) (some_same m n same) (below m bound less))
    by false no_less same = absurd (cc)

pub comes_of : (us : List Measure) (text : List ℕ) (n : ℕ) → IsSum us text n → are_units us ≡ true → n < 2 ^ 64 → comes_to us 0 text ≡ Some n
comes_of us text n sum units small =
    let less : nat_lt n (2 ^ 64) ≡ true = grind (arith, nat_tests) in
    rw (nothing_yet (sum_of us text), sum_complete sum units, less) refl

pub of_comes : (us : List Measure) (text : List ℕ) (n : ℕ) → comes_to us 0 text ≡ Some n → IsSum us text n × (n < 2 ^ 64)
of_comes us text n is = let (whole, small) = within (2 ^ 64) n (plus 0 (sum_of us text)) is in (sum_sound us text n (sym (nothing_yet (sum_of us text)) ∙ whole), small)
