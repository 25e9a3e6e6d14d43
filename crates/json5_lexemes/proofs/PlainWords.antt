-- Words of JSON: literals and numbers.
use denote.Ref.{Bor}
use Rattle.std.proofs.Common.{◌≡◌, ℕ, true, false, Option, Some, None, List, [], ◌∷◌, ◌++◌, refl, sym, ap, ◌∙◌, subst, arith}
use Rattle.std.specs.Prelude.{◌==◌, ◌↔◌}
use Rattle.std.proofs.lemmas.List.{append_cancel_left}
use Rattle.std.specs.Str.{chars}
use Rattle.std.proofs.lemmas.Bool.{both_ways}
use Rattle.std.proofs.lemmas.Bool.Decides.{nat_tests}
use Rattle.json5_grammar.specs.Language.Characters.{is_in, NotBegun}
use Rattle.json5_grammar.proofs.CommonLemmas.{neq_from}
use Rattle.json5_grammar.specs.Language.Numbers.{lone_zero, nonzero}
use Rattle.json5_grammar.specs.Language.Values.{null_text, true_text, false_text}
use Rattle.json5_styles.specs.Json.{JsonNumber, json_number, no_minus, minus}
use Rattle.json5_lexemes.specs.SameLexemes.{is_word_part}
use Rattle.json5_lexemes.specs.Plain.{JsonWord}
use Rattle.json5_lexemes.specs.Plain as plain
use Rattle.json5_lexemes.specs.PlainSteps.{begins_literal, begins_number, GoesOnIf, IsEmpty, IsPast, IsPastAll, Then}
use Rattle.json5_lexemes.proofs.PlainTokens.{no_empty_word, heads_apart, same_tail}

number_begins : {s : List ℕ} (r : List ℕ) → JsonNumber s → NotBegun begins_literal (s ++ r)
number_begins r (json_number minus i f e) = refl
number_begins r (json_number no_minus lone_zero f e) = refl
number_begins r (json_number no_minus (nonzero {c = c} h d) f e) = apart c h
  where
    apart : (c : ℕ) → is_in 49 57 c ≡ true → begins_literal c ≡ false
    apart c h = grind (arith, nat_tests)

pub no_letter_begins : (c : ℕ) → (c == 110) ≡ false → (c == 116) ≡ false → (c == 102) ≡ false → begins_literal c ≡ false
no_letter_begins c n t f = rw (n, t, f) refl

pub number_no_letter : (c : ℕ) → begins_number c ≡ true → begins_literal c ≡ false
number_no_letter c h = grind (arith, nat_tests)

-- ---- a literal in front

pub not_that : (c : ℕ) (x y : List ℕ) → NotBegun (λ d. d == c) x → x ≡ c ∷ y → ⊥
not_that c x y n e = neq_from c c (subst (NotBegun (λ d. d == c)) e n) refl

pub past_none : (c : ℕ) (w text : List ℕ) → NotBegun (λ d. d == c) (chars text) → (r : List ℕ) → chars text ≡ (c ∷ w) ++ r → ⊥
past_none c w text n r e = not_that c (chars text) (w ++ r) n e

pub past_last : (c : ℕ) (text : List ℕ) (result : Option (Bor (List ℕ))) → IsPast c text result → IsPastAll (c ∷ []) text result
past_last c text None n = past_none c [] text n
past_last c text (Some rest) s = s.chars

pub past_more : (c : ℕ) (w text after : List ℕ) (result : Option (Bor (List ℕ))) → chars text ≡ c ∷ chars after → IsPastAll w after result → IsPastAll (c ∷ w) text result
past_more c w text after None e n = λ r g. n r (same_tail c (chars after) (w ++ r) (sym e ∙ g))
past_more c w text after (Some rest) e g = e ∙ ap (λ z. c ∷ z) g

no_number : {s : List ℕ} (c : ℕ) (x y r : List ℕ) → begins_literal c ≡ true → JsonNumber s → x ≡ c ∷ y → x ≡ s ++ r → ⊥
no_number c x y r h k e g = both_ways (begins_literal c) (subst (NotBegun begins_literal) (sym g ∙ e) (number_begins r k)) h

-- the one word that begins so
abbrev pub IsOnly : (w x : List ℕ) → Type 0
IsOnly w x = (s r : List ℕ) → JsonWord s → x ≡ s ++ r → s ≡ w

pub only_null : (x y : List ℕ) → x ≡ 110 ∷ y → IsOnly null_text x
only_null x y e s r plain.is_null g = refl
only_null x y e s r plain.is_true g = absurd (heads_apart 110 116 y (114 ∷ 117 ∷ 101 ∷ r) refl (sym e ∙ g))
only_null x y e s r plain.is_false g = absurd (heads_apart 110 102 y (97 ∷ 108 ∷ 115 ∷ 101 ∷ r) refl (sym e ∙ g))
only_null x y e s r (plain.is_number k) g = absurd (no_number 110 x y r refl k e g)

pub only_true : (x y : List ℕ) → x ≡ 116 ∷ y → IsOnly true_text x
only_true x y e s r plain.is_null g = absurd (heads_apart 116 110 y (117 ∷ 108 ∷ 108 ∷ r) refl (sym e ∙ g))
only_true x y e s r plain.is_true g = refl
only_true x y e s r plain.is_false g = absurd (heads_apart 116 102 y (97 ∷ 108 ∷ 115 ∷ 101 ∷ r) refl (sym e ∙ g))
only_true x y e s r (plain.is_number k) g = absurd (no_number 116 x y r refl k e g)

pub only_false : (x y : List ℕ) → x ≡ 102 ∷ y → IsOnly false_text x
only_false x y e s r plain.is_null g = absurd (heads_apart 102 110 y (117 ∷ 108 ∷ 108 ∷ r) refl (sym e ∙ g))
only_false x y e s r plain.is_true g = absurd (heads_apart 102 116 y (114 ∷ 117 ∷ 101 ∷ r) refl (sym e ∙ g))
only_false x y e s r plain.is_false g = refl
only_false x y e s r (plain.is_number k) g = absurd (no_number 102 x y r refl k e g)

pub literal_passed : (w text : List ℕ) (result : Option (Bor (List ℕ))) → JsonWord w → IsOnly w (chars text) → IsPastAll w text result → GoesOnIf JsonWord IsEmpty text result
literal_passed w text None is only n = λ r (s, j, m, g). n r (g ∙ ap (λ z. z ++ r) (only s r j g))
literal_passed w text (Some rest) is only e = λ r. (
  λ (s, j, m, g). ([], refl, m, append_cancel_left w (chars rest.now) r (sym e ∙ g ∙ ap (λ z. z ++ r) (only s r j g))),
  λ (s, f, m, g). (w, is, m, e ∙ ap (λ z. w ++ z) (g ∙ ap (λ z. z ++ r) f)),
)

pub number_alone : (x : List ℕ) (c : ℕ) (y r : List ℕ) → x ≡ c ∷ y → begins_literal c ≡ false → Then JsonWord x r ↔ Then JsonNumber x r
number_alone x c y r e h = (λ (s, w, n, g). there s w n g, λ (s, w, n, g). (s, plain.is_number w, n, g))
  where
    apart : (d : ℕ) (z : List ℕ) → x ≡ d ∷ z → begins_literal d ≡ true → ⊥
    apart d z g k = let same : c ≡ d = cc in both_ways (begins_literal d) (subst (λ v. begins_literal v ≡ false) same h) k

    there : (s : List ℕ) → JsonWord s → NotBegun is_word_part r → x ≡ s ++ r → Then JsonNumber x r
    there s plain.is_null n g = absurd (apart 110 (117 ∷ 108 ∷ 108 ∷ r) g refl)
    there s plain.is_true n g = absurd (apart 116 (114 ∷ 117 ∷ 101 ∷ r) g refl)
    there s plain.is_false n g = absurd (apart 102 (97 ∷ 108 ∷ 115 ∷ 101 ∷ r) g refl)
    there s (plain.is_number k) n g = (s, k, n, g)

pub no_word : (x r : List ℕ) → x ≡ [] → Then JsonWord x r → ⊥
no_word x r e (s, w, n, g) = empty s w (sym g ∙ e)
  where
    empty : (s : List ℕ) → JsonWord s → s ++ r ≡ [] → ⊥
    empty [] w g = no_empty_word w refl
    empty (c ∷ s) w g = cc

-- what is left after a number
pub number_ends : (x r : List ℕ) → Then IsEmpty x r → NotBegun is_word_part x × (r ≡ x)
number_ends x r (s, e, n, g) = let same : x ≡ r = g ∙ ap (λ z. z ++ r) e in (subst (NotBegun is_word_part) (sym same) n, sym same)
