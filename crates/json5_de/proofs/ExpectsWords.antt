-- The kinds of values that a type expects.
use Rattle.std.proofs.Common.{◌≡◌, ℕ, Bool, true, false, List, [], ◌∷◌, ◌++◌, refl, ap, subst, ◌⊎◌, inl, inr, Option, Some}
use Rattle.std.specs.Prelude.{◌==◌, ◌||◌, if◌then◌else◌}
use lib.Chars.{codes}
use Rattle.json5_grammar.specs.declared.error_code.ErrorCode.{ErrorCode}
use Rattle.json5_grammar.specs.declared.error_code.ErrorCode.TheVariants as codes_of
use Rattle.json5_grammar.specs.Language.Trees.{Tree, null, boolean, number, text, array, object}
use Rattle.json5_grammar.specs.Language.Values.{Val, is_null, is_true, is_false, is_number, is_text, is_empty_array, is_array, is_empty_object, is_object, null_text, true_text, false_text}
use Rattle.json5_grammar.proofs.CommonLemmas.{neq_from}
use Rattle.json5_tokens.specs.TokenFaults.{FaultyWord}
use Rattle.json5_de.specs.Convert.{unit_of, bool_of}
use Rattle.json5_de.specs.Faults.{FaultyNull, FaultyBool}
use Rattle.json5_de.proofs.ExpectedKinds.{Expected}
use Rattle.json5_de.proofs.WordFaults.{word_end, word_other, word_no_fault}
use Rattle.std.proofs.lemmas.Bool.{or_parts}

-- ---- null

pub null_only : (t : Tree) (v : Unit {0}) → unit_of t ≡ Some v → t ≡ null
null_only null v e = refl
null_only (boolean b) v e = absurd (cc)
null_only (number n) v e = absurd (cc)
null_only (text u escape_free) v e = absurd (cc)
null_only (array ts) v e = absurd (cc)
null_only (object ps) v e = absurd (cc)

null_phrase : {s : List ℕ} {t : Tree} → t ≡ null → Val s t → s ≡ null_text
null_phrase e is_null = refl
null_phrase e is_true = absurd (cc)
null_phrase e is_false = absurd (cc)
null_phrase e (is_number n) = absurd (cc)
null_phrase e (is_text k) = absurd (cc)
null_phrase e (is_empty_array b) = absurd (cc)
null_phrase e (is_array m) = absurd (cc)
null_phrase e (is_empty_object b) = absurd (cc)
null_phrase e (is_object m) = absurd (cc)

pub expects_null : Expected FaultyNull unit_of (λ c. c == 0x6E) codes_of.EofParsingNull codes_of.ExpectedNull
expects_null = record {
  at_end = λ reason place f. word_end null_text [] reason place refl f;
  at_other = λ c r reason place h f. word_other 0x6E (codes "ull") c r (c ∷ r) reason place (neq_from c 0x6E h) refl f;
  no_fault = λ s r t v reason place e k stops f. word_no_fault null_text r (s ++ r) reason place (ap (λ z. z ++ r) (null_phrase (null_only t v e) k)) f;
  first = λ s t v e k. (0x6E, codes "ull", null_phrase (null_only t v e) k, refl);
}

-- ---- booleans

bool_phrase : {s : List ℕ} {t : Tree} (v : Bool) → bool_of t ≡ Some v → Val s t → (s ≡ true_text) ⊎ (s ≡ false_text)
bool_phrase v e is_null = absurd (cc)
bool_phrase v e is_true = inl refl
bool_phrase v e is_false = inr refl
bool_phrase v e (is_number n) = absurd (cc)
bool_phrase v e (is_text k) = absurd (cc)
bool_phrase v e (is_empty_array b) = absurd (cc)
bool_phrase v e (is_array m) = absurd (cc)
bool_phrase v e (is_empty_object b) = absurd (cc)
bool_phrase v e (is_object m) = absurd (cc)

other_bool : (c : ℕ) (r : List ℕ) (reason : Option ErrorCode) (place : Option (List ℕ)) → ((c == 0x74) || (c == 0x66)) ≡ false → FaultyBool (c ∷ r) reason place → (reason ≡ Some codes_of.ExpectedBool) × (place ≡ Some [])
other_bool c r reason place h f =
    let both = or_parts (c == 0x74) (c == 0x66) h in
    word_other 0x74 (codes "rue") c r (c ∷ r) reason place (neq_from c 0x74 both.0) refl
    (subst (λ b. FaultyWord (if b then false_text else true_text) codes_of.EofParsingBool codes_of.ExpectedBool (c ∷ r) reason place) both.1 f)

no_bool_fault : (s r : List ℕ) (reason : Option ErrorCode) (place : Option (List ℕ)) → (s ≡ true_text) ⊎ (s ≡ false_text) → FaultyBool (s ++ r) reason place → ⊥
no_bool_fault s r reason place (inl e) f = word_no_fault true_text r (true_text ++ r) reason place refl (subst (λ z. FaultyBool (z ++ r) reason place) e f)
no_bool_fault s r reason place (inr e) f = word_no_fault false_text r (false_text ++ r) reason place refl (subst (λ z. FaultyBool (z ++ r) reason place) e f)

bool_first : (s : List ℕ) → (s ≡ true_text) ⊎ (s ≡ false_text) → (c : ℕ) × (y : List ℕ) × (s ≡ c ∷ y) × (((c == 0x74) || (c == 0x66)) ≡ true)
bool_first s (inl e) = (0x74, codes "rue", e, refl)
bool_first s (inr e) = (0x66, codes "alse", e, refl)

pub expects_bool : Expected FaultyBool bool_of (λ c. (c == 0x74) || (c == 0x66)) codes_of.EofParsingBool codes_of.ExpectedBool
expects_bool = record {
  at_end = λ reason place f. word_end true_text [] reason place refl f;
  at_other = other_bool;
  no_fault = λ s r t v reason place e k stops f. no_bool_fault s r reason place (bool_phrase v e k) f;
  first = λ s t v e k. bool_first s (bool_phrase v e k);
}
