-- Texts that are none of others.
use Rattle.std.proofs.Common.{◌≡◌, ℕ, Bool, true, false, List, [], ◌∷◌, ◌++◌, refl, sym, ◌∙◌, subst}
use Rattle.std.proofs.lemmas.Slice.Eq.{bytes_eq-Decides}
use Rattle.std.specs.Prelude.{if◌then◌else◌}
use Rattle.std.specs.Str.{bytes_eq}
use Rattle.json5_fields.specs.Distinct.{is_one_of, no_two_equal}

pub one_of_either : (ns ms : List (List ℕ)) (u : List ℕ) → is_one_of (ns ++ ms) u ≡ (if is_one_of ns u then true else is_one_of ms u)
one_of_either [] ms u = refl
one_of_either (n ∷ ns) ms u = by (bytes_eq u n) (one_of_either ns ms u)
  where
    by : (b : Bool) → is_one_of (ns ++ ms) u ≡ (if is_one_of ns u then true else is_one_of ms u) → (if b then true else is_one_of (ns ++ ms) u) ≡ (if (if b then true else is_one_of ns u) then true else is_one_of ms u)
    by true rest = refl
    by false rest = rest

pub one_of_neither : (ns ms : List (List ℕ)) (u : List ℕ) → is_one_of ns u ≡ false → is_one_of ms u ≡ false → is_one_of (ns ++ ms) u ≡ false
one_of_neither ns ms u not_first not_second = one_of_either ns ms u ∙ rw (not_first, not_second) refl

first_false : (a b : Bool) → (if a then true else b) ≡ false → a ≡ false
first_false true b not = absurd (cc)
first_false false b not = refl

second_false : (a b : Bool) → (if a then true else b) ≡ false → b ≡ false
second_false true b not = absurd (cc)
second_false false b not = not

neither_second : (ns ms : List (List ℕ)) (u : List ℕ) → is_one_of (ns ++ ms) u ≡ false → is_one_of ms u ≡ false
neither_second ns ms u not = second_false (is_one_of ns u) (is_one_of ms u) (sym (one_of_either ns ms u) ∙ not)

-- a test that is false, and another that is true
fails : (a b : Bool) → (if a then false else b) ≡ true → a ≡ false
fails true b is = absurd (cc)
fails false b is = refl

holds : (a b : Bool) → (if a then false else b) ≡ true → b ≡ true
holds true b is = absurd (cc)
holds false b is = is

-- a text of the first is none of the others
pub apart : (ns ms : List (List ℕ)) (u : List ℕ) → no_two_equal (ns ++ ms) ≡ true → is_one_of ns u ≡ true → is_one_of ms u ≡ false
apart [] ms u differ named = absurd (cc)
apart (n ∷ ns) ms u differ named = by (bytes_eq u n) refl named (apart ns ms u (holds (is_one_of (ns ++ ms) n) (no_two_equal (ns ++ ms)) differ))
  where
    none : is_one_of ms n ≡ false
    none = neither_second ns ms n (fails (is_one_of (ns ++ ms) n) (no_two_equal (ns ++ ms)) differ)

    by : (b : Bool) → bytes_eq u n ≡ b → (if b then true else is_one_of ns u) ≡ true → (is_one_of ns u ≡ true → is_one_of ms u ≡ false) → is_one_of ms u ≡ false
    by true is named rest = let same : u ≡ n = (bytes_eq-Decides u n).0 is in subst (λ v. is_one_of ms v ≡ false) (sym same) none
    by false is named rest = rest named
