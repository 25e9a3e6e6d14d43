-- The position of a fault is counted only if it has none yet.
use Rattle.std.proofs.Common.{◌≡◌, ℕ, zero, suc, ◌+◌, ◌-◌, List, [], ◌∷◌, ◌++◌, length, refl, ap, sym, ◌∙◌, arith, length-append, Some, None}
use Rattle.std.specs.Str.{encode_utf8_all}
use Rattle.std.proofs.lemmas.Str.{encodes-append, length-le-encodes}
use Rattle.json5_grammar.specs.declared.position.Position.{Position}
use Rattle.json5_grammar.specs.Faults.Positions.{position_after}
use Rattle.json5_types.specs.declared.error.Error.{Error}
use Rattle.json5_types.specs.Errors.{kind_of, error_position, or_position}
use Rattle.json5_read.specs.Offsets.{StartsAfter, PositionedAt}

-- the characters within the first so many bytes
abbrev text_before : ℕ → List ℕ → List ℕ
text_before zero x = []
text_before (suc n) [] = []
text_before (suc n) (c ∷ x) = c ∷ text_before (suc n - length (encode_utf8_all (c ∷ []))) x

bytes_apart : (c : ℕ) (x : List ℕ) → length (encode_utf8_all (c ∷ x)) ≡ length (encode_utf8_all (c ∷ [])) + length (encode_utf8_all x)
bytes_apart c x = ap length (encodes-append (c ∷ []) x) ∙ length-append (encode_utf8_all (c ∷ [])) (encode_utf8_all x)

text_before_is : (before rest : List ℕ) (n : ℕ) → n ≡ length (encode_utf8_all before) → text_before n (before ++ rest) ≡ before
text_before_is [] rest n e = ap (λ k. text_before k rest) e
text_before_is (c ∷ before) rest zero e = absurd (omega (arith, e, bytes_apart c before, length-le-encodes (c ∷ [])))
text_before_is (c ∷ before) rest (suc n) e = ap (λ z. c ∷ z) (text_before_is before rest (suc n - length (encode_utf8_all (c ∷ []))) (omega (arith, e, bytes_apart c before)))

-- it has one
pub place_kept : (input : List ℕ) (start : ℕ) (own : Error) (p : Position) → error_position own ≡ Some p → PositionedAt (StartsAfter input start) own own
place_kept input start own p is = record {
  kind = refl;
  there = position_after (text_before start input);
  place = is ∙ sym (ap (λ o. or_position o (position_after (text_before start input))) is);
  is_there = λ before s. ap position_after (ap (text_before start) s.split ∙ text_before_is before s.rest start s.counted);
}

-- it gets one
pub place_given : (input : List ℕ) (start : ℕ) (own e : Error) (p : Position) → error_position own ≡ None → kind_of e ≡ kind_of own → error_position e ≡ Some p
    → ((before rest : List ℕ) → input ≡ before ++ rest → start ≡ length (encode_utf8_all before) → p ≡ position_after before) → PositionedAt (StartsAfter input start) own e
place_given input start own e p none kind place there = record {
  kind = kind;
  there = p;
  place = place ∙ sym (ap (λ o. or_position o p) none);
  is_there = λ before s. there before s.rest s.split s.counted;
}
