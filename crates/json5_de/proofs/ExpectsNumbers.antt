-- What a type of numbers expects.
use Rattle.std.proofs.Common.{◌≡◌, ℕ, true, false, List, [], ◌∷◌, ◌++◌, refl, ap, sym, ◌∙◌, subst, Option, Some, None}
use Rattle.std.specs.Prelude.{◌||◌}
use Rattle.std.proofs.lemmas.List.{append_cancel_right}
use Rattle.json5_grammar.specs.declared.error_code.ErrorCode.{ErrorCode}
use Rattle.json5_grammar.specs.declared.error_code.ErrorCode.TheVariants.{EofParsingNumber, ExpectedNumber}
use Rattle.json5_grammar.specs.Model.Reading.{here, inner, bad}
use Rattle.json5_grammar.specs.Model.ReadNumbers as reading
use Rattle.json5_grammar.specs.Faults.Tokens.{is_sign, begins_number}
use Rattle.json5_grammar.specs.Language.Numbers.{Number, Num, no_sign}
use Rattle.json5_grammar.specs.Language.Trees.{Tree}
use Rattle.json5_grammar.specs.Language.Values.{Val, Stops, is_null, is_true, is_false, is_number, is_text, is_empty_array, is_array, is_empty_object, is_object}
use Rattle.json5_grammar.proofs.NumbersRead.{number_unsigned}
use Rattle.json5_grammar.proofs.NumbersSound.{PlaceIs, unsigned_bad}
use Rattle.json5_grammar.proofs.NumberFaultsRefused.{refused, no_fault, one_number}
use Rattle.json5_grammar.proofs.ValueHeads.{number_head}
use Rattle.json5_tokens.specs.TokenFaults.{FaultyNumber, faulty, no_number, number_missing}
use Rattle.json5_de.specs.Convert.{as_number}
use Rattle.json5_de.specs.Faults.{NotNumber, faulty_number, other_number}
use Rattle.json5_de.proofs.ExpectedKinds.{Expected}
use Rattle.std.proofs.lemmas.Bool.{or_parts}
use Rattle.json5_grammar.proofs.CommonLemmas.{first_same, true_false, none_some}
use Rattle.json5_grammar.proofs.Refusals.{same_bad}

number_none : reading.number [] ≡ bad (Some EofParsingNumber) inner
unfolding reading.number
number_none = refl

number_other : (c : ℕ) (r : List ℕ) → (is_sign c || begins_number c) ≡ false → reading.number (c ∷ r) ≡ bad (Some ExpectedNumber) (here (c ∷ r))
number_other c r h = let k = or_parts (is_sign c) (begins_number c) h in number_unsigned c r no_sign k.0 ∙ unsigned_bad (c ∷ r) false c r k.1

-- a number isn't empty
not_empty : {s : List ℕ} {n : Number} {A : Type 0} (r : List ℕ) → Num s n → s ++ r ≡ [] → A
not_empty r k e = let (c, t, is, h) = number_head k in let none : c ∷ (t ++ r) ≡ [] = sym (ap (λ z. z ++ r) is) ∙ e in absurd (cc)

-- a number begins as numbers do
begins_as : {s : List ℕ} {n : Number} {A : Type 0} (r : List ℕ) (d : ℕ) (y : List ℕ) → Num s n → s ++ r ≡ d ∷ y → (is_sign d || begins_number d) ≡ false → A
begins_as r d y k e other =
    let (c, t, is, h) = number_head k in
    let same : c ≡ d = first_same c d (t ++ r) y (sym (ap (λ z. z ++ r) is) ∙ e) in
    true_false (subst (λ z. (is_sign z || begins_number z) ≡ true) same h) other

end_faulty : (x : List ℕ) (reason : Option ErrorCode) (place : Option (List ℕ)) → x ≡ [] → FaultyNumber x reason place → (reason ≡ Some EofParsingNumber) × (place ≡ None)
end_faulty x reason place e (faulty f) =
    let k = refused f in
    let same = same_bad (reading.number x) reason (Some EofParsingNumber) k.place inner k.answer (ap reading.number e ∙ number_none) in
    (same.0, subst (λ p. PlaceIs x p place) same.1 k.is_place)
end_faulty x reason place e (no_number c r h) = absurd (cc)
end_faulty x reason place e number_missing = (refl, refl)

other_faulty : (x : List ℕ) (c : ℕ) (r : List ℕ) (reason : Option ErrorCode) (place : Option (List ℕ)) → x ≡ c ∷ r → (is_sign c || begins_number c) ≡ false → FaultyNumber x reason place
    → (reason ≡ Some ExpectedNumber) × (place ≡ Some [])
other_faulty x c r reason place e h (faulty f) =
    let k = refused f in
    let same = same_bad (reading.number x) reason (Some ExpectedNumber) k.place (here (c ∷ r)) k.answer (ap reading.number e ∙ number_other c r h) in
    let (before, is, split) = subst (λ p. PlaceIs x p place) same.1 k.is_place in
    let none : [] ≡ before = append_cancel_right [] before (c ∷ r) (sym e ∙ split) in
    (same.0, is ∙ ap Some (sym none))
other_faulty x c r reason place e h (no_number d q k) = (refl, refl)
other_faulty x c r reason place e h number_missing = absurd (cc)

not_faulty : {s : List ℕ} {n : Number} (x r : List ℕ) (reason : Option ErrorCode) (place : Option (List ℕ)) → x ≡ s ++ r → Num s n → Stops s r → FaultyNumber x reason place → ⊥
not_faulty x r reason place e k stops (faulty f) = no_fault r f e k stops
not_faulty x r reason place e k stops (no_number c y h) = begins_as r c y k (sym e) h
not_faulty x r reason place e k stops number_missing = not_empty r k (sym e)

pub number_phrase : {C : Type 0} {s : List ℕ} {t : Tree} (f : Number → Option C) (v : C) → as_number f t ≡ Some v → Val s t → (n : Number) × Num s n × (f n ≡ Some v)
number_phrase f v e is_null = absurd (cc)
number_phrase f v e is_true = absurd (cc)
number_phrase f v e is_false = absurd (cc)
number_phrase f v e (is_number {n = n} k) = (n, k, e)
number_phrase f v e (is_text k) = absurd (cc)
number_phrase f v e (is_empty_array b) = absurd (cc)
number_phrase f v e (is_array m) = absurd (cc)
number_phrase f v e (is_empty_object b) = absurd (cc)
number_phrase f v e (is_object m) = absurd (cc)

end_number : {C : Type 0} (f : Number → Option C) (x : List ℕ) (reason : Option ErrorCode) (place : Option (List ℕ)) → x ≡ [] → NotNumber f x reason place → (reason ≡ Some EofParsingNumber) × (place ≡ None)
end_number f x reason place e (faulty_number k) = end_faulty x reason place e k
end_number f x reason place e (other_number r k stops none) = not_empty r k e

other_begin : {C : Type 0} (f : Number → Option C) (x : List ℕ) (c : ℕ) (r : List ℕ) (reason : Option ErrorCode) (place : Option (List ℕ)) → x ≡ c ∷ r → (is_sign c || begins_number c) ≡ false → NotNumber f x reason place
    → (reason ≡ Some ExpectedNumber) × (place ≡ Some [])
other_begin f x c r reason place e h (faulty_number k) = other_faulty x c r reason place e h k
other_begin f x c r reason place e h (other_number y k stops none) = begins_as y c r k e h

not_number : {C : Type 0} (f : Number → Option C) {s : List ℕ} {n : Number} (v : C) (x r : List ℕ) (reason : Option ErrorCode) (place : Option (List ℕ)) → x ≡ s ++ r → Num s n → f n ≡ Some v → Stops s r → NotNumber f x reason place → ⊥
not_number f v x r reason place e k is stops (faulty_number g) = not_faulty x r reason place e k stops g
not_number f {n = n} v x r reason place e k is stops (other_number y l others none) =
    let one = one_number l k others stops e in
    none_some (f n) v (sym (ap f one.1) ∙ none) is

first_of_number : {C : Type 0} {s : List ℕ} {t : Tree} (f : Number → Option C) (v : C) → as_number f t ≡ Some v → Val s t → (c : ℕ) × (y : List ℕ) × (s ≡ c ∷ y) × ((is_sign c || begins_number c) ≡ true)
first_of_number f v e k = number_head (number_phrase f v e k).1

pub expects_number : {C : Type 0} (f : Number → Option C) → Expected (NotNumber f) (as_number f) (λ c. is_sign c || begins_number c) EofParsingNumber ExpectedNumber
expects_number f = record {
  at_end = λ reason place k. end_number f [] reason place refl k;
  at_other = λ c r reason place h k. other_begin f (c ∷ r) c r reason place refl h k;
  no_fault = λ s r t v reason place e k stops g. let (n, num, is) = number_phrase f v e k in not_number f v (s ++ r) r reason place refl num is stops g;
  first = λ s t v e k. first_of_number f v e k;
}
