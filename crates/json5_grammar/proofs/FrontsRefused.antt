-- What is refused where a front ends is refused in the whole input, at the position within it.
use Rattle.std.proofs.Common.{◌≡◌, ℕ, List, [], ◌∷◌, ◌++◌, length, refl, ap, sym, ◌∙◌, append_assoc, Option, Some, None}
use Rattle.std.specs.Prelude.{drop}
use Rattle.std.proofs.lemmas.List.{drop_at}
use Rattle.json5_grammar.specs.Faults.Codes.{ErrorCode}
use Rattle.json5_grammar.specs.Faults.Fronts.{Bracket, Expects, opening, Front, start, after_value, after_bracket, after_comma, after_key, after_colon, end}
use Rattle.json5_grammar.specs.Faults.{innermost, lifted}
use Rattle.json5_grammar.specs.Model.Reading.{Place, here, inner, bad, IsAt}
use Rattle.json5_grammar.proofs.Refusals.{Refuses}
use Rattle.json5_grammar.proofs.FrontsLeft.{Finish, ending, phrase_then, left_at, whole_of}
use Rattle.json5_grammar.proofs.FrontsReached.{front_reached}

-- ---- what is refused in a bracket is refused in the whole

-- a position within the input stays
whole_here : (finish : Finish) (limit : ℕ) (x : List ℕ) (o : List Bracket) (e : Option ErrorCode) (q : List ℕ)
    → whole_of finish limit x o (bad e (here q)) ≡ bad e (here q)
whole_here finish limit x [] e q = refl
whole_here finish limit x (b ∷ o) e q = whole_here finish limit x o e q

-- what comes before the innermost bracket
pub bracket_before : {limit : ℕ} {f r : List ℕ} {o : List Bracket} {a : Expects} → Front limit f r o a → (b : Bracket) (p : List Bracket)
    → o ≡ b ∷ p → (q : List ℕ) × (f ≡ b.before ++ q)
bracket_before (start g) b p e = absurd (cc)
bracket_before (after_value {g = g} {s = s} {w = w} f t v st l gap) b p e =
    let k = bracket_before f b p e in (k.0 ++ (s ++ w), ap (λ z. z ++ (s ++ w)) k.1 ∙ append_assoc b.before k.0 (s ++ w))
bracket_before (after_bracket {g = g} {w = w} {o = o} k f t l gap) b p e =
    let same : record { kind = k; before = g } ≡ b = cc in (opening k ∷ w, ap (λ (c : Bracket). c.before ++ opening k ∷ w) same)
bracket_before (after_comma {w = w} f gap) b p e =
    let k = bracket_before f b p e in (k.0 ++ 44 ∷ w, ap (λ z. z ++ 44 ∷ w) k.1 ∙ append_assoc b.before k.0 (44 ∷ w))
bracket_before (after_key {k = s} {w = w} f is gap) b p e =
    let k = bracket_before f b p e in (k.0 ++ (s ++ w), ap (λ z. z ++ (s ++ w)) k.1 ∙ append_assoc b.before k.0 (s ++ w))
bracket_before (after_colon {w = w} f gap) b p e =
    let k = bracket_before f b p e in (k.0 ++ 58 ∷ w, ap (λ z. z ++ 58 ∷ w) k.1 ∙ append_assoc b.before k.0 (58 ∷ w))

-- a refusal at a front is one of the whole
pub refused_at : {limit : ℕ} {f y : List ℕ} {o : List Bracket} {a : Expects} {code : Option ErrorCode} (finish : Finish) (place : Option (List ℕ))
    → Front limit f y o a → Refuses (left_at finish limit o a y) y code place
    → Refuses (phrase_then finish limit (f ++ y)) (f ++ y) code (lifted f o place)
refused_at {limit = limit} {f = f} {y = y} {o = o} {a = a} {code = code} finish place h (p, e, i) =
    by_place place p i (front_reached finish (f ++ y) h refl ∙ ap (whole_of finish limit (f ++ y) o) e)
  where
    by_place : (place : Option (List ℕ)) (p : Place) → IsAt y place p
        → phrase_then finish limit (f ++ y) ≡ whole_of finish limit (f ++ y) o (bad code p)
        → Refuses (phrase_then finish limit (f ++ y)) (f ++ y) code (lifted f o place)
    by_place (Some b) (here q) i k = (here q, k ∙ whole_here finish limit (f ++ y) o code q, ap (λ z. f ++ z) i ∙ sym (append_assoc f b q))
    by_place (Some b) inner i k = absurd i
    by_place None (here q) i k = absurd i
    by_place None inner i k = by_open o refl k
      where
        by_open : (p : List Bracket) → o ≡ p → phrase_then finish limit (f ++ y) ≡ whole_of finish limit (f ++ y) p (bad code inner)
            → Refuses (phrase_then finish limit (f ++ y)) (f ++ y) code (innermost p)
        by_open [] same k = (inner, k, tt)
        by_open (b ∷ p) same k =
            let at = bracket_before h b p same in
            let split : f ++ y ≡ b.before ++ (at.0 ++ y) = ap (λ z. z ++ y) at.1 ∙ append_assoc b.before at.0 y in
            let q = drop (length b.before) (f ++ y) in (
              here q,
              k ∙ whole_here finish limit (f ++ y) p code q,
              split ∙ ap (λ z. b.before ++ z) (sym (ap (drop (length b.before)) split ∙ drop_at b.before (at.0 ++ y) (length b.before) refl)),
            )

-- where the end is expected, blanks and the end are read
abbrev pub EndsFully : Expects → Finish → Type 0
EndsFully a finish = a ≡ end → finish ≡ ending
