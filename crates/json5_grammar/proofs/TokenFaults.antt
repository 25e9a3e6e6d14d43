-- What reading refuses between tokens and within one is a fault of the table, with its code and its position.
use Rattle.std.proofs.Common.{◌≡◌, ℕ, Bool, true, false, ◌||◌, List, [], ◌∷◌, ◌++◌, refl, ap, sym, ◌∙◌, append_assoc, subst, inl, inr, Option, Some, None, ◌≢◌}
use Rattle.std.specs.Prelude.{◌==◌}
use Rattle.std.proofs.lemmas.List.{append_cancel_left}
use Rattle.json5_grammar.specs.Language.Characters.{is_identifier_start}
use Rattle.json5_grammar.specs.Faults.Codes.{ErrorCode, ExpectedIdentifier, Shown, by_char, by_end, after_text}
use Rattle.json5_grammar.specs.Language.Blanks.{is_solid}
use Rattle.json5_grammar.specs.Faults.Tokens.{BlankFault}
use Rattle.json5_grammar.specs.Faults.Tokens as tokens
use Rattle.json5_grammar.specs.Language.Numbers.{Number}
use Rattle.json5_grammar.specs.Language.Strings.{is_quote}
use Rattle.json5_grammar.specs.Language.Trees.{Tree, text}
use Rattle.json5_grammar.specs.Faults.Fronts.{Bracket, Expects, takes_value, value, element, key, colon, comma, end}
use Rattle.json5_grammar.specs.Faults.{innermost, lifted, FaultAt, in_comment, no_key, in_word, in_number, in_a_string, in_a_name, FaultWhere, fault}
use Rattle.json5_grammar.specs.Model.Reading.{Place, here, inner, Read, got, bad, and_then, placed, IsAt}
use Rattle.json5_grammar.specs.Model.ReadBlanks.{skip, between}
use Rattle.json5_grammar.specs.Model.ReadTexts as texts
use Rattle.json5_grammar.specs.Model.ReadValues.{as_leaf}
use Rattle.json5_grammar.proofs.BlanksSound.{BlanksSound, skip_sound}
use Rattle.json5_grammar.proofs.FoundPlaces.{Found}
use Rattle.json5_grammar.proofs.WordsRead.{WordSound}
use Rattle.json5_grammar.proofs.NumbersSound.{PlaceIs, SoundNumber}
use Rattle.json5_grammar.proofs.StringsSound.{StringSound}
use Rattle.json5_grammar.proofs.KeysRead.{KeySound, key_sound}
use Rattle.json5_grammar.proofs.ValuesSound.{no_key_at}
use Rattle.json5_grammar.proofs.FrontsAt.{At, at_blanks}

-- the text in which faults are judged, the nesting limit, and where they may be: wherever a value isn't over, at least
pub record Scope : Type 1 where
  pub Where : Expects → Type 0
  pub before_end : (a : Expects) → a ≢ end → Where a
  pub limit : ℕ
  pub text : List ℕ

-- the position that reading gives, in the input x; if it gives none, that of the innermost bracket
abbrev pub Stands : List ℕ → List Bracket → Option (List ℕ) → Place → Type 0
Stands x o (Some b) (here q) = x ≡ b ++ q
Stands x o None (here q) = ⊥
Stands x o place inner = place ≡ innermost o

-- the input has a fault of this code, at the position that reading gives
pub record Blamed (s : Scope) (o : List Bracket) (code : Option ErrorCode) (p : Place) : Type 0 where
  pub place : Option (List ℕ)
  pub before : List ℕ
  pub part : List ℕ
  pub shown : Shown
  pub found : FaultWhere s.Where s.limit s.text code place before part shown
  pub stands : Stands s.text o place p

-- what is refused is a fault
abbrev pub Judged : {A : Type 0} → Scope → List Bracket → Read A → Type 0
Judged s o (got a r) = Unit {0}
Judged s o (bad code p) = Blamed s o code p

-- a token's position, after f
lifted_stands : (f y : List ℕ) (o : List Bracket) (place : Option (List ℕ)) (p : Place) → IsAt y place p
    → Stands (f ++ y) o (lifted f o place) p
lifted_stands f y o (Some b) (here q) e = ap (λ z. f ++ z) e ∙ sym (append_assoc f b q)
lifted_stands f y o (Some b) inner e = absurd e
lifted_stands f y o None (here q) e = absurd e
lifted_stands f y o None inner e = refl

-- the position of a number's fault
pub number_at : (y : List ℕ) (p : Place) (place : Option (List ℕ)) → PlaceIs y p place → IsAt y place p
number_at y (here q) place (b, is, e) = rw is e
number_at y inner place e = rw e tt

module _ (s : Scope) where
  open s use {Where, before_end, limit, text as x}

  -- where a value is expected faults may be
  pub takes_where : (a : Expects) → takes_value a ≡ true → Where a
  takes_where value t = before_end value (λ e. cc)
  takes_where element t = before_end element (λ e. cc)
  takes_where key t = absurd (cc)
  takes_where colon t = absurd (cc)
  takes_where comma t = absurd (cc)
  takes_where end t = absurd (cc)

  -- ---- steps one after another

  -- what is read next is judged by itself
  pub judged_then : {A B : Type 0} (P : A → List ℕ → Type 0) (y : List ℕ) (o : List Bracket) (m : Read A) (f : A → List ℕ → Read B)
      → Found P y m → Judged s o m → ((a : A) (r : List ℕ) → P a r → Judged s o (f a r)) → Judged s o (and_then m f)
  judged_then P y o (got a r) f h j k = k a r h
  judged_then P y o (bad e p) f h j k = j

  -- what is built of what was read changes nothing
  pub judged_last : {A B : Type 0} (o : List Bracket) (m : Read A) (f : A → B) → Judged s o m → Judged s o (and_then m (λ a r. got (f a) r))
  judged_last o (got a r) f j = tt
  judged_last o (bad e p) f j = j

  -- a fault within a bracket, seen from before it
  pub judged_placed : {A : Type 0} (o : List Bracket) (b : Bracket) (q : List ℕ) (m : Read A) → x ≡ b.before ++ q
      → Judged s (b ∷ o) m → Judged s o (placed q m)
  judged_placed o b q (got a r) e j = tt
  judged_placed o b q (bad c (here z)) e j =
      record { place = j.place; before = j.before; part = j.part; shown = j.shown; found = j.found; stands = here_same j.place j.stands }
    where
      here_same : (place : Option (List ℕ)) → Stands x (b ∷ o) place (here z) → Stands x o place (here z)
      here_same (Some w) k = k
      here_same None k = k
  judged_placed o b q (bad c inner) e j =
      record { place = j.place; before = j.before; part = j.part; shown = j.shown; found = j.found; stands = inner_here j.place j.stands }
    where
      inner_here : (place : Option (List ℕ)) → Stands x (b ∷ o) place inner → Stands x o place (here q)
      inner_here (Some w) k = let same : w ≡ b.before = cc in rw same e
      inner_here None k = absurd (cc)

  -- ---- the faults where reading stands

  -- the fault of what comes here
  pub blame : {part b : List ℕ} {o : List Bracket} {a : Expects} {code : Option ErrorCode} (y : List ℕ) (place : Option (List ℕ))
      (shown : Shown) (p : Place)
      (h : At limit x y o a) → Where a → FaultAt limit o a y code place b part shown → IsAt y place p → Blamed s o code p
  blame {part = part} {b = b} {o = o} {code = code} y place shown p h w t i = record {
    place = lifted h.front o place;
    before = h.front ++ b;
    part = part;
    shown = shown;
    found = subst (λ z. FaultWhere Where limit z code (lifted h.front o place) (h.front ++ b) part shown) (sym h.split) (fault h.cut w t);
    stands = subst (λ z. Stands z o (lifted h.front o place) p) (sym h.split) (lifted_stands h.front y o place p i);
  }

  -- a character's
  pub one_char : {o : List Bracket} {a : Expects} (code : ErrorCode) (c : ℕ) (r : List ℕ) → At limit x (c ∷ r) o a → Where a
      → FaultAt limit o a (c ∷ r) (Some code) (Some []) [] (c ∷ []) by_char → Blamed s o (Some code) (here (c ∷ r))
  one_char code c r h w t = blame (c ∷ r) (Some []) by_char (here (c ∷ r)) h w t refl

  -- the end's
  pub the_end : {o : List Bracket} {a : Expects} (code : ErrorCode) → At limit x [] o a → Where a
      → FaultAt limit o a [] (Some code) None [] [] by_end → Blamed s o (Some code) inner
  the_end code h w t = blame [] None by_end inner h w t tt

  -- ---- blanks

  -- a comment's, after blanks
  after_blanks : {y before part : List ℕ} {o : List Bracket} {a : Expects} {code : Option ErrorCode} {place : Option (List ℕ)}
      (shown : Shown) (p : Place)
      → At limit x y o a → Where a → BlankFault y code place before part shown → IsAt y place p → Blamed s o code p
  after_blanks shown p h k (tokens.in_comment {w = w} {x = z} {place = place} b c) i =
      blame z place shown p (at_blanks limit x (w ++ z) w z h refl b) k (in_comment c) (without w z place p i)
    where
      without : (w z : List ℕ) (place : Option (List ℕ)) (p : Place) → IsAt (w ++ z) (after_text w place) p → IsAt z place p
      without w z (Some q) (here r) e = append_cancel_left w z (q ++ r) (e ∙ append_assoc w q r)
      without w z (Some q) inner e = absurd e
      without w z None (here r) e = absurd e
      without w z None inner e = tt

  -- blanks
  pub gap_judged : {o : List Bracket} {a : Expects} (y : List ℕ) → At limit x y o a → Where a → Judged s o (skip between y)
  gap_judged {o = o} y h k = by_answer (skip between y) (skip_sound y)
    where
      by_answer : (m : Read (Unit {0})) → BlanksSound y m → Judged s o m
      by_answer (got u r) k = tt
      by_answer (bad e p) b = after_blanks b.shown p h k b.fault b.is_at

  -- ---- tokens

  -- a word, a number, a string where a value is expected
  pub word_judged : {o : List Bracket} {a : Expects} (w y : List ℕ) (t : Tree) (m : Read Tree) → At limit x y o a → takes_value a ≡ true
      → WordSound t w y m → Judged s o m
  word_judged w y t (got u r) h k sound = tt
  word_judged w y t (bad e p) h k b = blame y b.place b.shown p h (takes_where _ k) (in_word k b.fault) b.is_at

  pub number_judged : {o : List Bracket} {a : Expects} (y : List ℕ) (m : Read Number) → At limit x y o a → takes_value a ≡ true
      → SoundNumber y m → Judged s o (as_leaf Tree.number m)
  number_judged y (got n r) h k sound = tt
  number_judged y (bad e p) h k b = blame y b.place b.shown p h (takes_where _ k) (in_number k b.fault) (number_at y p b.place b.is_place)

  pub text_judged : {o : List Bracket} {a : Expects} (y : List ℕ) (m : Read (List ℕ × Bool)) → At limit x y o a → takes_value a ≡ true
      → StringSound y m → Judged s o (as_leaf (λ a. text a.0 a.1) m)
  text_judged y (got a r) h k sound = tt
  text_judged y (bad e p) h k b = blame y b.place b.shown p h (takes_where _ k) (in_a_string (inl k) b.fault) b.is_at

  -- a key, where no closing brace comes
  pub key_judged : {o : List Bracket} (c : ℕ) (r : List ℕ) → At limit x (c ∷ r) o key → is_solid c ≡ true → (c == 125) ≡ false
      → Judged s o (texts.key (c ∷ r))
  key_judged {o = o} c r h solid n = split (is_quote c || ((c == 92) || is_identifier_start c)) refl
    where
      here_too : Where key
      here_too = before_end key (λ e. cc)

      from_key : (m : Read (List ℕ × Bool)) → KeySound (c ∷ r) m → Judged s o m
      from_key (got a q) k = tt
      from_key (bad e p) (inl b) = blame (c ∷ r) b.place b.shown p h here_too (in_a_string (inr refl) b.fault) b.is_at
      from_key (bad e p) (inr b) = blame (c ∷ r) b.place b.shown p h here_too (in_a_name b.fault) b.is_at

      with_brace : (a b d e : Bool) → (a || (b || d)) ≡ false → e ≡ false → (a || (b || (d || e))) ≡ false
      with_brace true b d e i j = absurd (cc)
      with_brace false true d e i j = absurd (cc)
      with_brace false false true e i j = absurd (cc)
      with_brace false false false e i j = j

      split : (b : Bool) → (is_quote c || ((c == 92) || is_identifier_start c)) ≡ b → Judged s o (texts.key (c ∷ r))
      split true k = from_key (texts.key (c ∷ r)) (key_sound c r k)
      split false k =
          rw (no_key_at c r k)
          (one_char ExpectedIdentifier c r h here_too (no_key solid (with_brace (is_quote c) (c == 92) (is_identifier_start c) (c == 125) k n)))
