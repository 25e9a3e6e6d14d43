-- The words `null`, `true` and `false`: complete, sound, refused; one fault.
use Rattle.std.proofs.Common.{◌≡◌, ℕ, true, cond, List, [], ◌∷◌, ◌++◌, refl, ap, sym, ◌∙◌, ◌≢◌, ◌⊎◌, inl, inr, subst, Option, Some, None}
use Rattle.std.specs.Prelude.{◌==◌}
use Rattle.std.proofs.lemmas.List.{append-nil}
use Rattle.json5_grammar.specs.Faults.Codes.{ErrorCode, EofParsingBool, EofParsingNull, ExpectedBool, ExpectedNull, Shown, by_char, by_end}
use Rattle.json5_grammar.specs.Faults.Tokens.{Word, null_word, true_word, false_word, WordFault, word_differs, word_ends}
use Rattle.json5_grammar.specs.Faults.Blames.{WordBlame, IsBlamed}
use Rattle.json5_grammar.specs.Faults.Parts.{IsPrefix}
use Rattle.json5_grammar.specs.Model.Reading.{Place, here, inner, Read, got, bad, IsAt, word_at}
use Rattle.json5_grammar.specs.Language.Values.{null_text, true_text, false_text}
use Rattle.json5_grammar.proofs.CommonLemmas.{by_test, eq_from, neq_from, not_eq, same_char, cons_not_nil}
use Rattle.json5_grammar.proofs.Refusals.{Refuses, one_refusal, not_both}

-- a word in front is read
pub word_complete : {A : Type 0} (eof wrong : ErrorCode) (a : A) (w r : List ℕ) → word_at eof wrong a w (w ++ r) ≡ got a r
unfolding word_at
word_complete eof wrong a [] r = refl
word_complete eof wrong a (k ∷ w) r = rw (same_char k) (word_complete eof wrong a w r)

-- ---- sound

-- x has a fault of a word with this code at this position
pub record WordBlamed (x : List ℕ) (code : Option ErrorCode) (p : Place) : Type 0 where
  pub place : Option (List ℕ)
  pub part : List ℕ
  pub shown : Shown
  pub fault : WordFault x code place part shown
  pub is_at : IsAt x place p

abbrev pub WordSound : {A : Type 0} → A → List ℕ → List ℕ → Read A → Type 0
WordSound a w x (got b r) = (b ≡ a) × (x ≡ w ++ r)
WordSound a w x (bad code p) = WordBlamed x code p

-- what the answer says of the rest of a word
abbrev pub WordIs : {A : Type 0} → ErrorCode → ErrorCode → A → List ℕ → List ℕ → Read A → Type 0
WordIs eof wrong a ks x (got b r) = (b ≡ a) × (x ≡ ks ++ r)
WordIs eof wrong a ks x (bad e p) =
    ((v : List ℕ) × (d : ℕ) × (q : List ℕ) × (c : ℕ) × (r : List ℕ) × (ks ≡ v ++ d ∷ q) × (x ≡ v ++ c ∷ r) × (c ≢ d) × (e ≡ Some wrong) × (p ≡ here (c ∷ r)))
    ⊎ ((d : ℕ) × (q : List ℕ) × (ks ≡ x ++ d ∷ q) × (e ≡ Some eof) × (p ≡ inner))

word_more : {A : Type 0} (eof wrong : ErrorCode) (a : A) (k : ℕ) (ks x : List ℕ) (res : Read A) → WordIs eof wrong a ks x res → WordIs eof wrong a (k ∷ ks) (k ∷ x) res
word_more eof wrong a k ks x (got b r) (i, e) = (i, ap (λ z. k ∷ z) e)
word_more eof wrong a k ks x (bad e p) (inl (v, d, q, c, r, f, g, t, i, j)) = inl (k ∷ v, d, q, c, r, ap (λ z. k ∷ z) f, ap (λ z. k ∷ z) g, t, i, j)
word_more eof wrong a k ks x (bad e p) (inr (d, q, f, i, j)) = inr (d, q, ap (λ z. k ∷ z) f, i, j)

pub word_is : {A : Type 0} (eof wrong : ErrorCode) (a : A) (ks x : List ℕ) → WordIs eof wrong a ks x (word_at eof wrong a ks x)
unfolding word_at
word_is eof wrong a [] x = (refl, refl)
word_is eof wrong a (k ∷ ks) [] = inr (k, ks, refl, refl, refl)
word_is eof wrong a (k ∷ ks) (c ∷ r) =
    by_test (WordIs eof wrong a (k ∷ ks) (c ∷ r)) (c == k) (word_at eof wrong a ks r) (bad (Some wrong) (here (c ∷ r)))
    (λ h. subst (λ z. WordIs eof wrong a (k ∷ ks) (z ∷ r) (word_at eof wrong a ks r)) (sym (eq_from c k h)) (word_more eof wrong a k ks r (word_at eof wrong a ks r) (word_is eof wrong a ks r)))
    (λ h. inl ([], k, ks, c, r, refl, refl, neq_from c k h, refl, refl))

from_is : {A : Type 0} {eof wrong : ErrorCode} (a : A) (k : ℕ) (ks r : List ℕ) (res : Read A) → Word (k ∷ ks) wrong eof → WordIs eof wrong a ks r res → WordSound a (k ∷ ks) (k ∷ r) res
from_is a k ks r (got b y) w (i, e) = (i, ap (λ z. k ∷ z) e)
from_is {wrong = wrong} a k ks r (bad e p) w (inl (v, d, q, c, y, i, j, t, u, l)) =
    rw (u, l) (subst (λ z. WordBlamed (k ∷ z) (Some wrong) (here (c ∷ y))) (sym j) (record {
      place = Some (k ∷ v);
      part = (k ∷ v) ++ c ∷ [];
      shown = by_char;
      fault = word_differs y (k ∷ ks) (k ∷ v) d c w (q, ap (λ z. k ∷ z) i) (cons_not_nil k v) t;
      is_at = refl;
    }))
from_is a k ks r (bad e p) w (inr (d, q, i, u, l)) =
    rw (u, l) (record { place = None; part = k ∷ r; shown = by_end; fault = word_ends (k ∷ ks) (k ∷ r) d w (q, ap (λ z. k ∷ z) i) (cons_not_nil k r); is_at = tt })

first_step : {A : Type 0} (eof wrong : ErrorCode) (a : A) (k : ℕ) (ks r : List ℕ) → word_at eof wrong a (k ∷ ks) (k ∷ r) ≡ word_at eof wrong a ks r
unfolding word_at
first_step eof wrong a k ks r = rw (same_char k)

-- a text that begins with a word's first letter begins with the word, or has a fault of it
pub word_sound : {A : Type 0} {eof wrong : ErrorCode} (a : A) (k : ℕ) (ks : List ℕ) (c : ℕ) (r : List ℕ) → Word (k ∷ ks) wrong eof → (c == k) ≡ true → WordSound a (k ∷ ks) (c ∷ r) (word_at eof wrong a (k ∷ ks) (c ∷ r))
word_sound {eof = eof} {wrong = wrong} a k ks c r w h =
    subst (λ z. WordSound a (k ∷ ks) (z ∷ r) (word_at eof wrong a (k ∷ ks) (z ∷ r))) (sym (eq_from c k h))
    (subst (WordSound a (k ∷ ks) (k ∷ r)) (sym (first_step eof wrong a k ks r)) (from_is a k ks r (word_at eof wrong a ks r) w (word_is eof wrong a ks r)))

-- ---- refused

-- the word and the text begin with one letter
abbrev pub SameFirst : List ℕ → List ℕ → Type 0
SameFirst w x = (k : ℕ) × (ks : List ℕ) × (r : List ℕ) × (w ≡ k ∷ ks) × (x ≡ k ∷ r)

-- x is refused as one of the words
pub record WordRefused (x : List ℕ) (code : Option ErrorCode) (place : Option (List ℕ)) : Type 0 where
  pub the_word : List ℕ
  pub wrong : ErrorCode
  pub eof : ErrorCode
  pub is_word : Word the_word wrong eof
  pub first : SameFirst the_word x
  pub refuses : Refuses (word_at eof wrong (tt {0}) the_word x) x code place

pub differs_at : {A : Type 0} (eof wrong : ErrorCode) (a : A) (p q r : List ℕ) (d c : ℕ) → c ≢ d → word_at eof wrong a (p ++ d ∷ q) (p ++ c ∷ r) ≡ bad (Some wrong) (here (c ∷ r))
unfolding word_at
differs_at eof wrong a [] q r d c n = rw (not_eq c d n) refl
differs_at eof wrong a (k ∷ p) q r d c n = rw (same_char k) (differs_at eof wrong a p q r d c n)

pub ends_in : {A : Type 0} (eof wrong : ErrorCode) (a : A) (p q : List ℕ) (d : ℕ) → word_at eof wrong a (p ++ d ∷ q) p ≡ bad (Some eof) inner
unfolding word_at
ends_in eof wrong a [] q d = refl
ends_in eof wrong a (k ∷ p) q d = rw (same_char k) (ends_in eof wrong a p q d)

same_first : (w p q y : List ℕ) → p ≢ [] → w ≡ p ++ q → SameFirst w (p ++ y)
same_first w [] q y n e = absurd (n refl)
same_first w (k ∷ p) q y n e = (k, p ++ q, p ++ y, e, refl)

-- a fault of a word is refused with its code at its position
pub word_refused : {x part : List ℕ} {code : Option ErrorCode} {place : Option (List ℕ)} {shown : Shown} → WordFault x code place part shown → WordRefused x code place
word_refused (word_differs r w p {bad = wrong} {eof = eof} d c k (q, e) n ne) = record {
  the_word = w;
  wrong = wrong;
  eof = eof;
  is_word = k;
  first = same_first w p (d ∷ q) (c ∷ r) n e;
  refuses = (here (c ∷ r), ap (λ z. word_at eof wrong tt z (p ++ c ∷ r)) e ∙ differs_at eof wrong tt p q r d c ne, refl);
}
word_refused (word_ends w p {bad = wrong} {eof = eof} d k (q, e) n) = record {
  the_word = w;
  wrong = wrong;
  eof = eof;
  is_word = k;
  first = subst (SameFirst w) (append-nil p) (same_first w p (d ∷ q) [] n e);
  refuses = (inner, ap (λ z. word_at eof wrong tt z p) e ∙ ends_in eof wrong tt p q d, tt);
}

-- the word that the first letter begins
abbrev by_first : List ℕ → Read (Unit {0})
by_first [] = bad None inner
by_first (c ∷ r) = cond (c == 110) (word_at EofParsingNull ExpectedNull tt null_text (c ∷ r)) (cond (c == 116) (word_at EofParsingBool ExpectedBool tt true_text (c ∷ r)) (word_at EofParsingBool ExpectedBool tt false_text (c ∷ r)))

by_word : {w x : List ℕ} {wrong eof : ErrorCode} → Word w wrong eof → SameFirst w x → by_first x ≡ word_at eof wrong tt w x
by_word null_word (k, ks, r, e, f) = let a : k ≡ 110 = cc in rw (f, a) refl
by_word true_word (k, ks, r, e, f) = let a : k ≡ 116 = cc in rw (f, a) refl
by_word false_word (k, ks, r, e, f) = let a : k ≡ 102 = cc in rw (f, a) refl

first_refused : {x part : List ℕ} {code : Option ErrorCode} {place : Option (List ℕ)} {shown : Shown} → WordFault x code place part shown → Refuses (by_first x) x code place
first_refused {x = x} {code = code} {place = place} f = let k = word_refused f in subst (λ z. Refuses z x code place) (sym (by_word k.is_word k.first)) k.refuses

-- two faults of words of one input have one code and one position
pub one_word_fault : {x p q : List ℕ} {e f : Option ErrorCode} {pl pm : Option (List ℕ)} {h i : Shown} → WordFault x e pl p h → WordFault x f pm q i → (e ≡ f) × (pl ≡ pm)
one_word_fault {x = x} {e = e} {f = f} {pl = pl} {pm = pm} a b = one_refusal (by_first x) x e f pl pm (first_refused a) (first_refused b)

word_first : {w : List ℕ} {wrong eof : ErrorCode} (r : List ℕ) → Word w wrong eof → SameFirst w (w ++ r)
word_first r null_word = same_first null_text null_text [] r (λ e. cc) refl
word_first r true_word = same_first true_text true_text [] r (λ e. cc) refl
word_first r false_word = same_first false_text false_text [] r (λ e. cc) refl

-- a text with a word in front has no fault of a word
pub no_word_fault : {w p : List ℕ} {wrong eof : ErrorCode} {e : Option ErrorCode} {pl : Option (List ℕ)} {h : Shown} (r : List ℕ) → Word w wrong eof → WordFault (w ++ r) e pl p h → ⊥
no_word_fault {w = w} {wrong = wrong} {eof = eof} {e = e} {pl = pl} r k f =
    not_both (by_first (w ++ r)) (w ++ r) r tt e pl (by_word k (word_first r k) ∙ word_complete eof wrong tt w r) (first_refused f)

-- a text that begins with a word's first letter begins with the word, or has a fault of a word
pub word_judged : (k : ℕ) (ks r : List ℕ) (wrong eof : ErrorCode) → Word (k ∷ ks) wrong eof → IsPrefix (k ∷ ks) (k ∷ r) ⊎ IsBlamed WordBlame (k ∷ r)
word_judged k ks r wrong eof w = by_answer (word_at eof wrong (tt {0}) (k ∷ ks) (k ∷ r)) (word_sound tt k ks k r w (same_char k))
  where
    by_answer : (res : Read (Unit {0})) → WordSound tt (k ∷ ks) (k ∷ r) res → IsPrefix (k ∷ ks) (k ∷ r) ⊎ IsBlamed WordBlame (k ∷ r)
    by_answer (got u y) e = inl (y, e.1)
    by_answer (bad code p) b = inr (record { code = code; place = b.place; before = []; part = b.part; shown = b.shown }, (refl, b.fault))
