-- What follows the blanks where a whole number or an escape-free string can be read.
use Rattle.std.proofs.Common.{◌≡◌, ℕ, Bool, true, false, List, ◌++◌, refl, ap, sym, ◌∙◌, subst, Option, Some, None, ℤ}
use Rattle.json5_grammar.specs.Language.Blanks.{Gap}
use Rattle.json5_grammar.specs.Language.Numbers.{Number, whole, decimal, Num}
use Rattle.json5_grammar.specs.Language.Strings.{Str}
use Rattle.json5_grammar.specs.Language.Trees.{Tree}
use Rattle.json5_grammar.specs.Language.Values.{Stops, Reads}
use Rattle.json5_grammar.proofs.BlanksSound.{one_gap}
use Rattle.json5_grammar.proofs.NumberFaultsRefused.{one_number}
use Rattle.json5_grammar.proofs.StringsRead.{one_string}
use Rattle.json5_grammar.proofs.ValueHeads.{val_head, value_solid}
use Rattle.json5_types.specs.NumberMeanings.{keeps_digits}
use Rattle.json5_de.specs.Convert.{as_number, as_whole, as_text, if_escape_free}
use Rattle.json5_de.specs.State.{State}
use Rattle.json5_de.specs.ReaderSteps.{PassedGap, TookText}
use Rattle.json5_de.proofs.ExpectsNumbers.{number_phrase}
use Rattle.json5_de.proofs.ExpectsStrings.{text_phrase}
use Rattle.json5_grammar.proofs.CommonLemmas.{none_some}

phrase_after : (old mid : State) (t : Tree) (r : List ℕ) → PassedGap old mid → (h : Reads old.unread t r) → mid.unread ≡ h.phrase ++ r
phrase_after old mid t r p h = (one_gap h.front (h.phrase ++ r) p.gap mid.unread (Gap.blanks h.blank) (value_solid r (val_head h.value)) p.is_gap p.solid (sym h.split ∙ p.split)).1

-- ---- numbers

-- a whole number, whose digits aren't kept
pub record NumberThere (x r : List ℕ) : Type 0 where
  pub literal : List ℕ
  pub number : Number
  pub split : x ≡ literal ++ r
  pub is_number : Num literal number
  pub stops : Stops literal r
  pub allocation_free : keeps_digits number ≡ false

whole_free : {C : Type 0} (f : ℤ → Option C) (n : Number) (v : C) → as_whole f n ≡ Some v → keeps_digits n ≡ false
whole_free f (whole z) v e = refl
whole_free f (decimal d) v e = absurd (cc)

pub whole_there : {C : Type 0} (f : ℤ → Option C) (old mid : State) (t : Tree) (r : List ℕ) (v : C) → PassedGap old mid → Reads old.unread t r → as_number (as_whole f) t ≡ Some v → NumberThere mid.unread r
whole_there f old mid t r v p h is =
    let (n, num, e) = number_phrase (as_whole f) v is h.value in
    record { literal = h.phrase; number = n; split = phrase_after old mid t r p h; is_number = num; stops = h.stops; allocation_free = whole_free f n v e }

-- a number that isn't of the type isn't one that is
pub no_other_number : {C : Type 0} (f : Number → Option C) (old mid new : State) (s : List ℕ) (n : Number) (t : Tree) (r : List ℕ) (v : C) → PassedGap old mid → TookText mid s new → Num s n → Stops s new.unread → f n ≡ None → Reads old.unread t r
    → as_number f t ≡ Some v → ⊥
no_other_number f old mid new s n t r v p k num stops none h is =
    let (m, there, e) = number_phrase f v is h.value in
    let one = one_number num there stops h.stops (sym k.split ∙ phrase_after old mid t r p h) in
    none_some (f m) v (sym (ap f one.1) ∙ none) e

-- ---- strings

-- a string without an escape
pub record EscapeFreeThere (x r : List ℕ) : Type 0 where
  pub string : List ℕ
  pub text : List ℕ
  pub split : x ≡ string ++ r
  pub is_string : Str string text true

is_escape_free : (u : List ℕ) (escape_free : Bool) (v : List ℕ) → if_escape_free u escape_free ≡ Some v → escape_free ≡ true
is_escape_free u true v e = refl
is_escape_free u false v e = absurd (cc)

pub escape_free_there : (old mid : State) (t : Tree) (r v : List ℕ) → PassedGap old mid → Reads old.unread t r → as_text if_escape_free t ≡ Some v → EscapeFreeThere mid.unread r
escape_free_there old mid t r v p h is =
    let (u, escape_free, str, e) = text_phrase if_escape_free v is h.value in
    record { string = h.phrase; text = u; split = phrase_after old mid t r p h; is_string = subst (Str h.phrase u) (is_escape_free u escape_free v e) str }

-- a string whose text doesn't convert is none that converts
pub no_other_text : {C : Type 0} (f : List ℕ → Bool → Option C) (old mid new : State) (s u : List ℕ) (escape_free : Bool) (t : Tree) (r : List ℕ) (v : C) → PassedGap old mid → TookText mid s new → Str s u escape_free → f u escape_free ≡ None → Reads old.unread t r
    → as_text f t ≡ Some v → ⊥
no_other_text f old mid new s u escape_free t r v p k str none h is =
    let (w, q, there, e) = text_phrase f v is h.value in
    let one = one_string new.unread r str there (sym k.split ∙ phrase_after old mid t r p h) in
    none_some (f w q) v (subst (λ z. f w z ≡ None) one.2 (subst (λ z. f z escape_free ≡ None) one.1 none)) e
