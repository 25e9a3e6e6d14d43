-- What is found by the short ways, in the words of their contracts.
use Rattle.std.proofs.Common.{◌≡◌, ℕ, false, ◌^◌, List, ◌∷◌, ◌++◌, ℤ, pos, neg_ℤ, ◌-ℤ◌, ◌≤ℤ◌, refl, ap, ◌∙◌, arith}
use Rattle.std.specs.Str.{chars}
use Rattle.std.proofs.lemmas.Int.{ints, to_z-of_z}
use mir.Syntax.{w128}
use mir.Val.{to_z, of_z, SFits}
use Rattle.std.specs.Int.Signed.{lt_z, lt_z_no}
use Rattle.json5_grammar.specs.Language.Blanks.{Gap}
use Rattle.json5_grammar.specs.Language.Characters.{NotBegun}
use Rattle.json5_grammar.specs.Language.Numbers.{Number, Num, whole, lengthens}
use Rattle.json5_grammar.specs.Model.Reading.{got}
use Rattle.json5_grammar.specs.Model.ReadBlanks.{skip, between}
use Rattle.json5_grammar.specs.Model.ReadNumbers.{number}
use Rattle.json5_grammar.specs.Language.Values.{is_number}
use Rattle.json5_grammar.proofs.ValueHeads.{val_head, skip_value}
use Rattle.json5_tokens.specs.ByteRuns.{SpellsFewDigits}
use Rattle.json5_tokens.specs.Cursor.{Cursor}
use Rattle.json5_tokens.specs.ShortWays.{IsWholeOfFewDigits, TookNumber, TookInRange}
use Rattle.json5_tokens.specs.TokenResults.{GivesValue}
use Rattle.json5_tokens.proofs.WholesOfFewDigits.{few_bare, few_minus}
use Rattle.json5_tokens.proofs.ScanNumbers.{number_taken}
use Rattle.json5_tokens.proofs.ScanTokens.{blanks_passed}

-- a number of 64 bits, or its negative, is kept in 128 bits
pub kept : (z : ℤ) → neg_ℤ (pos (10 ^ 19)) ≤ℤ z → z ≤ℤ pos (10 ^ 19) → to_z w128 (of_z w128 z) ≡ z
kept z l h = to_z-of_z w128 z (omega (arith, ints, l, h))

-- the number that is kept is that in front
pub kept_whole : (s r : List ℕ) (z k : ℤ) → IsWholeOfFewDigits s z r → k ≡ z → IsWholeOfFewDigits s k r
kept_whole s r z k w e = rw e w

pub bare_whole : (s r : List ℕ) (n : ℕ) (z : ℤ) → SpellsFewDigits s n r → z ≡ pos n → IsWholeOfFewDigits s (to_z w128 (of_z w128 z)) r
bare_whole s r n z k e =
    let l = k.small in
    let same : to_z w128 (of_z w128 z) ≡ pos n = kept z (omega (arith, ints, e, l)) (omega (arith, ints, e, l)) ∙ e in
    kept_whole s r (pos n) _ (record { gives = few_bare s r n (pos n) k refl; low = omega (arith, ints, l); high = omega (arith, ints, l) }) same

pub minus_whole : (s t r : List ℕ) (n : ℕ) (z : ℤ) → chars s ≡ 45 ∷ chars t → SpellsFewDigits t n r → z ≡ pos n → IsWholeOfFewDigits s (to_z w128 (of_z w128 (pos 0 -ℤ to_z w128 (of_z w128 z)))) r
minus_whole s t r n z m k e =
    let l = k.small in
    let same : to_z w128 (of_z w128 z) ≡ pos n = kept z (omega (arith, ints, e, l)) (omega (arith, ints, e, l)) ∙ e in
    let minus : pos 0 -ℤ to_z w128 (of_z w128 z) ≡ neg_ℤ (pos n) = ap (λ (y : ℤ). pos 0 -ℤ y) same ∙ omega (arith, ints) in
    let both : to_z w128 (of_z w128 (pos 0 -ℤ to_z w128 (of_z w128 z))) ≡ neg_ℤ (pos n) = kept _ (omega (arith, ints, minus, l)) (omega (arith, ints, minus, l)) ∙ minus in
    kept_whole s r (neg_ℤ (pos n)) _ (record { gives = few_minus s t r n (neg_ℤ (pos n)) m k refl; low = omega (arith, ints, l); high = omega (arith, ints, l) }) both

pub few_given : (s r : List ℕ) (z : ℤ) → IsWholeOfFewDigits s z r → GivesValue (number (chars s)) (whole (to_z w128 (of_z w128 z))) r
few_given s r z k = rw (kept z k.low k.high) k.gives

-- ---- a number after blanks

pub record NumberFound (x r : List ℕ) (n : Number) : Type 0 where
  pub gap : List ℕ
  pub literal : List ℕ
  pub split : x ≡ gap ++ (literal ++ r)
  pub is_gap : Gap gap (literal ++ r)
  pub is_number : Num literal n
  pub stops : NotBegun (lengthens literal) r

pub number_found : (x y s r : List ℕ) (n : Number) → x ≡ y → skip between x ≡ skip between s → number s ≡ got n r → NumberFound y r n
number_found x y s r n e p read =
    let k = number_taken s s r n refl read in
    let solid = skip_value r (val_head (is_number k.is_number)) in
    let b = blanks_passed x y (k.literal ++ r) e (p ∙ ap (skip between) k.split ∙ solid) in
    record { gap = b.gap; literal = k.literal; split = b.split; is_gap = b.blank; is_number = k.is_number; stops = k.stops }

-- what was found in front was taken
pub number_took : (old new : Cursor) (r : List ℕ) (n : Number) → NumberFound old.unread r n → new.unread ≡ r → new.input ≡ old.input → TookNumber old new n
number_took old new r n k u i = record {
  gap = k.gap;
  literal = k.literal;
  split = rw u k.split;
  is_gap = rw u k.is_gap;
  is_number = k.is_number;
  stops = rw u k.stops;
  same = i;
}

not_below : (a b : ℤ) → lt_z a b ≡ false → b ≤ℤ a
not_below a b h = lt_z_no (rw h tt)

-- the same of a whole number, which is in range
pub in_range : (old new : Cursor) (min max z : ℤ) (r : List ℕ) → neg_ℤ (pos (10 ^ 19)) ≤ℤ z → z ≤ℤ pos (10 ^ 19) → SFits w128 min → SFits w128 max
    → lt_z (to_z w128 (of_z w128 z)) (to_z w128 (of_z w128 min)) ≡ false → lt_z (to_z w128 (of_z w128 max)) (to_z w128 (of_z w128 z)) ≡ false
    → NumberFound old.unread r (whole z) → new.unread ≡ r → new.input ≡ old.input → TookInRange min max old new (to_z w128 (of_z w128 z))
in_range old new min max z r l h a b p q k u i =
    let e : to_z w128 (of_z w128 z) ≡ z = kept z l h in
    let low : min ≤ℤ z = not_below z min (rw (e, to_z-of_z w128 min a) at p) in
    let high : z ≤ℤ max = not_below max z (rw (e, to_z-of_z w128 max b) at q) in
    rw e (record { took = number_took old new r (whole z) k u i; low = low; high = high })
