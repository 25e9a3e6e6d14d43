-- What reading refuses a value or a document with is a fault of the table, with its code and its position.
use Rattle.std.proofs.Common.{◌≡◌, ℕ, zero, suc, ◌+◌, true, false, ◌||◌, List, [], ◌∷◌, length, refl, sym, arith, subst, Some}
use Rattle.std.specs.Prelude.{◌==◌}
use Rattle.std.proofs.lemmas.Bool.Decides.{nat_tests}
use Rattle.json5_grammar.specs.Language.Characters.{NotBegun}
use Rattle.json5_grammar.specs.Faults.Codes.{EofParsingValue, ExpectedValue, TrailingCharacters, TooDeep}
use Rattle.json5_grammar.specs.Language.Blanks.{Solid, is_solid}
use Rattle.json5_grammar.specs.Faults.Tokens.{is_sign, begins_number, null_word, true_word, false_word}
use Rattle.json5_grammar.specs.Language.Strings.{is_quote}
use Rattle.json5_grammar.specs.Language.Trees.{Tree, null, boolean, array, object}
use Rattle.json5_grammar.specs.Language.Values.{null_text, true_text, false_text}
use Rattle.json5_grammar.specs.Faults.Fronts.{of_array, of_object, Bracket, Expects, takes_value, value, end}
use Rattle.json5_grammar.specs.Faults.{begins_value, is_allowed_close, no_value, value_missing, nested_too_deep, trailing, Anywhere, InValue}
use Rattle.json5_grammar.specs.Model.Reading.{here, Read, bad}
use Rattle.json5_grammar.specs.Model.ReadBlanks.{skip, between}
use Rattle.json5_grammar.specs.Model.ReadNumbers as numbers
use Rattle.json5_grammar.specs.Model.ReadTexts.{string}
use Rattle.json5_grammar.specs.Model.ReadValues.{read_elements, read_members, value_with, too_deep, read, at_end, document}
use Rattle.json5_grammar.proofs.CommonLemmas.{by_test, eq_from}
use Rattle.json5_grammar.proofs.OneTree.{phrase_reader}
use Rattle.json5_grammar.proofs.WordsRead.{word_sound}
use Rattle.json5_grammar.proofs.NumbersSound.{sound}
use Rattle.json5_grammar.proofs.StringsSound.{string_sound}
use Rattle.json5_grammar.proofs.ValueHeads.{array_reader, object_reader, read_step}
use Rattle.json5_grammar.proofs.ValuesSound.{IsGap, IsValue, gap_found, read_found}
use Rattle.json5_grammar.proofs.FrontsAt.{At, at_start, at_gap, at_value, at_open}
use Rattle.json5_grammar.proofs.BracketFaults.{ReadsJudged, solid_char, no_close, items_judged, entries_judged}
use Rattle.json5_grammar.proofs.TokenFaults.{Scope, Judged, Blamed, takes_where, judged_then, judged_last, judged_placed, one_char, the_end, gap_judged, word_judged, number_judged, text_judged}

-- a character that passes no test of a value's first
no_value_begins : (c : ℕ) → (c == 110) ≡ false → (c == 116) ≡ false → (c == 102) ≡ false → is_quote c ≡ false
    → (is_sign c || begins_number c) ≡ false → (c == 91) ≡ false → (c == 123) ≡ false → begins_value c ≡ false
no_value_begins c a b d e f g i = grind (arith, nat_tests)

module _ (s : Scope) where
  open s use {limit, text as x}

  -- ---- a value

  module _ (d : ℕ) (o : List Bracket) (a : Expects) (takes : takes_value a ≡ true) where
    -- at a bracket, seen by its character
    bracket_judged : (c b : ℕ) (r : List ℕ) (f : List ℕ → List ℕ → Read Tree) → (c == b) ≡ true → At limit x (c ∷ r) o a
        → (At limit x (b ∷ r) o a → Judged s o (f (b ∷ r) r)) → Judged s o (f (c ∷ r) r)
    bracket_judged c b r f e h k =
        let same : c ≡ b = eq_from c b e in
        subst (λ z. Judged s o (f (z ∷ r) r)) (sym same) (k (subst (λ z. At limit x (z ∷ r) o a) same h))

    -- at a character that begins no value
    at_no_value : (c : ℕ) (r : List ℕ) → At limit x (c ∷ r) o a → is_solid c ≡ true → begins_value c ≡ false → is_allowed_close a c ≡ false
        → Blamed s o (Some ExpectedValue) (here (c ∷ r))
    at_no_value c r h solid b n = one_char s ExpectedValue c r h (takes_where s a takes) (no_value takes solid b n)

    module _ (arrays objects : List ℕ → List ℕ → Read Tree)
        (array_is : (r : List ℕ) → At limit x (91 ∷ r) o a → Judged s o (arrays (91 ∷ r) r))
        (object_is : (r : List ℕ) → At limit x (123 ∷ r) o a → Judged s o (objects (123 ∷ r) r)) where
      -- by the value's first character, the brackets being judged by themselves
      with_judged : (y : List ℕ) → At limit x y o a → Solid y → NotBegun (is_allowed_close a) y → Judged s o (value_with arrays objects y)
      with_judged [] h solid n = the_end s EofParsingValue h (takes_where s a takes) (value_missing takes)
      with_judged (c ∷ r) h solid n =
          by_test (Judged s o) (c == 110) _ _
          (λ i. word_judged s null_text (c ∷ r) null _ h takes (word_sound null 110 _ c r null_word i))
          (λ i. by_test (Judged s o) (c == 116) _ _
          (λ j. word_judged s true_text (c ∷ r) (boolean true) _ h takes (word_sound (boolean true) 116 _ c r true_word j))
          (λ j. by_test (Judged s o) (c == 102) _ _
          (λ k. word_judged s false_text (c ∷ r) (boolean false) _ h takes (word_sound (boolean false) 102 _ c r false_word k))
          (λ k. by_test (Judged s o) (is_quote c) _ _
          (λ q. text_judged s (c ∷ r) (string (c ∷ r)) h takes (string_sound c r q))
          (λ q. by_test (Judged s o) (is_sign c || begins_number c) _ _
          (λ m. number_judged s (c ∷ r) (numbers.number (c ∷ r)) h takes (sound (c ∷ r) m))
          (λ m. by_test (Judged s o) (c == 91) (arrays (c ∷ r) r) _
          (λ b. bracket_judged c 91 r arrays b h (array_is r))
          (λ b. by_test (Judged s o) (c == 123) (objects (c ∷ r) r) (bad (Some ExpectedValue) (here (c ∷ r)))
          (λ e. bracket_judged c 123 r objects e h (object_is r))
          (λ e. at_no_value c r h (solid_char c r solid) (no_value_begins c i j k q m b e) n)))))))

  -- ---- values, nested as deep as the limit allows

  -- a bracket too many; an array and an object within the limit
  too_deep_judged : (o : List Bracket) (a : Expects) (c : ℕ) (r : List ℕ) → length o + 0 ≡ limit → takes_value a ≡ true
      → ((c == 91) || (c == 123)) ≡ true → At limit x (c ∷ r) o a → Judged s o (too_deep (c ∷ r) r)
  too_deep_judged o a c r l t k h = one_char s TooDeep c r h (takes_where s a t) (nested_too_deep t k (omega (arith, l)))

  array_judged : (d : ℕ) (o : List Bracket) (a : Expects) (r : List ℕ) → ReadsJudged s d → length o + suc d ≡ limit → takes_value a ≡ true
      → At limit x (91 ∷ r) o a → Judged s o (array_reader (suc d) (91 ∷ r) r)
  array_judged d o a r j l t h =
      judged_placed s o (record { kind = of_array; before = h.front }) (91 ∷ r) _ h.split
      (judged_last s _ (read_elements (read d) (suc (length r)) r) array
      (items_judged s d o h.front j (omega (arith, l)) (suc (length r)) r (omega arith) (at_open limit x of_array r h t (omega (arith, l)))))

  object_judged : (d : ℕ) (o : List Bracket) (a : Expects) (r : List ℕ) → ReadsJudged s d → length o + suc d ≡ limit → takes_value a ≡ true
      → At limit x (123 ∷ r) o a → Judged s o (object_reader (suc d) (123 ∷ r) r)
  object_judged d o a r j l t h =
      judged_placed s o (record { kind = of_object; before = h.front }) (123 ∷ r) _ h.split
      (judged_last s _ (read_members (read d) (suc (length r)) r) object
      (entries_judged s d o h.front j (omega (arith, l)) (suc (length r)) r (omega arith) (at_open limit x of_object r h t (omega (arith, l)))))

  -- what refuses a value nested no deeper than the number is a fault
  read_judged : (d : ℕ) → ReadsJudged s d
  read_judged zero o a y h l (t, solid, n) =
      rw (read_step zero y)
      (with_judged zero o a t too_deep too_deep
      (λ r i. too_deep_judged o a 91 r l t refl i) (λ r i. too_deep_judged o a 123 r l t refl i) y h solid n)
  read_judged (suc d) o a y h l (t, solid, n) =
      rw (read_step (suc d) y)
      (with_judged (suc d) o a t (array_reader (suc d)) (object_reader (suc d))
      (λ r i. array_judged d o a r (read_judged d) l t i) (λ r i. object_judged d o a r (read_judged d) l t i) y h solid n)

-- ---- whole texts

-- faults of the value in front, and faults of the whole text
abbrev pub of_value : ℕ → List ℕ → Scope
of_value limit x = record { Where = InValue; before_end = λ a n. n; limit = limit; text = x }

abbrev pub of_text : ℕ → List ℕ → Scope
of_text limit x = record { Where = Anywhere; before_end = λ a n. tt; limit = limit; text = x }

-- what refuses a value after blanks is a fault of it
pub phrase_judged : (limit : ℕ) (x : List ℕ) → Judged (of_value limit x) [] (phrase_reader limit x)
phrase_judged limit x =
    let s = of_value limit x in
    judged_then s (IsGap x) x [] (skip between x) _ (gap_found x) (gap_judged s x (at_start limit x) (s.before_end value (λ e. cc)))
    (λ u y g. read_judged s limit [] value y (at_gap limit x x y u (at_start limit x) g) (omega arith) (refl, g.3, no_close y))

-- after the value
end_judged : (limit : ℕ) (x : List ℕ) (t : Tree) (y : List ℕ) → Solid y → At limit x y [] end → Judged (of_text limit x) [] (at_end t y)
end_judged limit x t [] solid h = tt
end_judged limit x t (c ∷ r) solid h = one_char (of_text limit x) TrailingCharacters c r h tt (trailing (solid_char c r solid))

-- what refuses a document is a fault
pub document_judged : (limit : ℕ) (x : List ℕ) → Judged (of_text limit x) [] (document limit x)
unfolding document
document_judged limit x =
    let s = of_text limit x in
    judged_then s (IsGap x) x [] (skip between x) _ (gap_found x) (gap_judged s x (at_start limit x) tt)
    (λ u y g. let first = at_gap limit x x y u (at_start limit x) g in
    judged_then s (IsValue limit y) y [] (read limit y) _ (read_found limit y)
    (read_judged s limit [] value y first (omega arith) (refl, g.3, no_close y))
    (λ t z v. let then_end = at_value limit x limit y z t first refl (omega arith) v in
    judged_then s (IsGap z) z [] (skip between z) _ (gap_found z) (gap_judged s z then_end tt)
    (λ w q k. end_judged limit x t q k.3 (at_gap limit x z q w then_end k))))
