-- How many of some pairs conform, and what the rest of them can still change.
use Rattle.std.proofs.Common.{if◌then◌else◌, ◌≡◌, ◌∙◌, ◌≤◌, ◌<◌, ◌-◌, ◌+◌, get_or, drop, take, ℕ, suc, Bool, true, false, ◌&&◌, List, [], ◌∷◌, length, nat_eq, nat_le, ap, sym, refl, arith, String, string_bytes}
use Rattle.std.proofs.lemmas.Bool.Decides.{nat_tests}
use Rattle.std.specs.declared.alloc.Global.{Global}
use Rattle.std.specs.Str.{chars}
use Rattle.json5_types.specs.declared.value.Value.{Value}
use Rattle.json5_types.specs.ValueMeanings.{Datum, value_of, fields_view, Fields}
use Rattle.std.proofs.lemmas.List.{length-map, length-drop, take_all, drop_more}
use Rattle.json5_schema.specs.declared.asked.Pair.{Pair}
use Rattle.json5_schema.specs.Views.{pair_view, pairs_view}
use Rattle.json5_schema.specs.Conformance.{Answers, answers, count_conforming, is_within, less, keyword_holds, keywords_hold, unfolded}

abbrev pub Test : Type 0
Test = Datum → Datum → Bool

-- the rules, unfolded once more
pub unfolded_more : (n : ℕ) (v : Answers) (root : Datum) → unfolded (suc n) v root ≡ answers (unfolded n v root) root
unfolding unfolded
unfolded_more n v root = refl

one_more : (b : Bool) (c n : ℕ) → c ≤ n → (if b then suc c else c) ≤ suc n
one_more true c n h = omega (arith, h)
one_more false c n h = omega (arith, h)

pub count_at_most : (v : Test) (ps : List (Datum × Datum)) → count_conforming v ps ≤ length ps
count_at_most v [] = omega arith
count_at_most v (p ∷ ps) = one_more (v p.0 p.1) (count_conforming v ps) (length ps) (count_at_most v ps)

numbers_kept : (c least most : ℕ) → nat_eq most 0 ≡ false → (nat_le (least - 1) c && nat_le c (most - 1)) ≡ (nat_le least (suc c) && nat_le (suc c) most)
numbers_kept c least most h = grind (arith, nat_tests)

numbers_full : (c least : ℕ) → (nat_le least (suc c) && nat_le (suc c) 0) ≡ false
numbers_full c least = grind (arith, nat_tests)

numbers_few : (c least most n : ℕ) → c ≤ n → n < least → (nat_le least c && nat_le c most) ≡ false
numbers_few c least most n h k = grind (arith, nat_tests)

numbers_enough : (c most n : ℕ) → c ≤ n → n ≤ most → (nat_le 0 c && nat_le c most) ≡ true
numbers_enough c most n h k = grind (arith, nat_tests)

-- the first pair is counted, and what is left decides
pub kept : (v : Test) (p : Datum × Datum) (ps : List (Datum × Datum)) (least most : ℕ) (holds : Bool) → v p.0 p.1 ≡ holds → (holds && nat_eq most 0) ≡ false
    → is_within v (less holds least) (less holds most) ps ≡ is_within v least most (p ∷ ps)
kept v p ps least most true h k = rw h (numbers_kept (count_conforming v ps) least most k)
kept v p ps least most false h k = rw h refl

pub full : (v : Test) (p : Datum × Datum) (ps : List (Datum × Datum)) (least : ℕ) → v p.0 p.1 ≡ true → is_within v least 0 (p ∷ ps) ≡ false
full v p ps least h = rw h (numbers_full (count_conforming v ps) least)

pub few : (v : Test) (ps : List (Datum × Datum)) (least most : ℕ) → length ps < least → is_within v least most ps ≡ false
few v ps least most h = numbers_few (count_conforming v ps) least most (length ps) (count_at_most v ps) h

pub enough : (v : Test) (ps : List (Datum × Datum)) (most : ℕ) → length ps ≤ most → is_within v 0 most ps ≡ true
enough v ps most h = numbers_enough (count_conforming v ps) most (length ps) (count_at_most v ps) h

-- the same of the code's pairs
pub next : (v : Test) (p : Pair) (ps xs : List Pair) (least most : ℕ) (holds : Bool) → xs ≡ p ∷ ps → v (value_of p.schema.now) (value_of p.value.now) ≡ holds → (holds && nat_eq most 0) ≡ false
    → is_within v (less holds least) (less holds most) (pairs_view ps) ≡ is_within v least most (pairs_view xs)
next v p ps xs least most holds e h k = rw e (kept v (pair_view p) (pairs_view ps) least most holds h k)

pairs_counted : (ps : List Pair) → length (pairs_view ps) ≡ length ps
pairs_counted ps = simp length-map

pub few_left : (v : Test) (ps : List Pair) (least most : ℕ) → length ps < least → is_within v least most (pairs_view ps) ≡ false
few_left v ps least most h = few v (pairs_view ps) least most (rw (pairs_counted ps) h)

pub enough_left : (v : Test) (ps : List Pair) (least most : ℕ) → least ≡ 0 → length ps ≤ most → is_within v least most (pairs_view ps) ≡ true
enough_left v ps least most e h = rw e (enough v (pairs_view ps) most (rw (pairs_counted ps) h))

pub pair_from : (ps : List Pair) (i : ℕ) (p : Pair) → i < length ps → p ≡ get_or ps i p → drop i ps ≡ p ∷ drop (i + 1) ps
pair_from ps i p h is = drop_more ps i p h ∙ ap (λ (q : Pair). q ∷ drop (i + 1) ps) (sym is)

-- the first keyword, and those after it
pub keywords_first : (w : Answers) (root x : Datum) (all : Fields) (f : String Global × Value) (fs xs : List (String Global × Value)) (b : Bool) → xs ≡ f ∷ fs
    → keyword_holds w root all (chars (string_bytes f.0)) (value_of f.1) (fields_view fs) x ≡ b → keywords_hold w root all (fields_view xs) x ≡ (b && keywords_hold w root all (fields_view fs) x)
keywords_first w root x all f fs xs b e h = rw e (ap (λ (c : Bool). c && keywords_hold w root all (fields_view fs) x) h)

-- the members from an index on, as a slice has them
pub rest_is : (xs : List (String Global × Value)) (n : ℕ) → take (length xs - n) (drop n xs) ≡ drop n xs
rest_is xs n = let short : length (drop n xs) ≤ length xs - n = omega (arith, length-drop n xs) in take_all (length xs - n) (drop n xs) short
