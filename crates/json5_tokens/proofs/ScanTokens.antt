-- What is read below the scanner, in the words of its contracts.
use Rattle.std.proofs.Common.{◌≡◌, ℕ, Bool, true, false, cond, List, [], ◌∷◌, ◌++◌, length, refl, ap, sym, ◌∙◌, inl, inr, subst, Some, None}
use Rattle.std.specs.Prelude.{◌==◌, ◌||◌}
use Rattle.std.specs.Str.{IsUtf8, chars}
use Rattle.std.proofs.lemmas.Str.{encodes-chars}
use Rattle.json5_grammar.specs.declared.error_code.ErrorCode.{ErrorCode}
use Rattle.json5_grammar.specs.Language.Blanks.{Gap, Solid}
use Rattle.json5_grammar.specs.Model.Reading.{Read, here, inner, got, bad, word_at}
use Rattle.json5_grammar.specs.Model.ReadBlanks.{skip, between}
use Rattle.json5_grammar.specs.Language.Characters.{is_identifier_start}
use Rattle.json5_grammar.specs.declared.error_code.ErrorCode.TheVariants.{EofParsingIdentifier, ExpectedIdentifier}
use Rattle.json5_grammar.specs.Language.Names.{Ident, goes_on_name}
use Rattle.json5_grammar.proofs.NamesRead.{name_complete}
use Rattle.json5_grammar.specs.Model.ReadTexts.{string, identifier}
use Rattle.json5_grammar.specs.Language.Strings.{is_quote, Str, quoted}
use Rattle.json5_grammar.proofs.CommonLemmas.{by_test}
use Rattle.json5_grammar.proofs.NamesSound.{Stopped, NameSound, name_sound}
use Rattle.json5_grammar.proofs.StringsRead.{string_complete}
use Rattle.json5_grammar.proofs.StringsSound.{StringSound, string_sound}
use Rattle.json5_grammar.proofs.BlanksSound.{BlanksSound, skip_sound}
use Rattle.json5_grammar.proofs.WordsRead.{WordIs, word_is}
use Rattle.json5_tokens.specs.declared.refusal.Refusal.{Refusal}
use Rattle.json5_tokens.specs.declared.refusal.Refusal.TheVariants as refusal
use Rattle.json5_tokens.specs.Outcome.{gave, outcome, bytes_in}
use Rattle.json5_tokens.specs.RefusalOutcomes.{Refuses}
use Rattle.json5_tokens.specs.Cursor.{Cursor}
use Rattle.json5_tokens.specs.TokenFaults.{FaultyBlanks, FaultyWord, word_differs, word_ends, FaultyString, faulty, no_quote, string_missing, FaultyName, no_name, name_missing}
use Rattle.json5_tokens.specs.Scan.{HasFault, Leaves}
use Rattle.json5_tokens.specs.ScanTexts.{string_at}
use Rattle.json5_tokens.proofs.ScanFaults.{FaultAt, FaultyIn, gave_failed, no_memory}

pub left_counted : (r : List ℕ) → IsUtf8 r → length r ≡ bytes_in (chars r)
left_counted r u = sym (ap length (encodes-chars r u))

pub leaves_rest : {s : Cursor} (w r : List ℕ) → s.unread ≡ w ++ chars r → IsUtf8 r → Leaves s (length r)
leaves_rest w r e u = record { passed = w; rest = chars r; split = e; counted = left_counted r u }

-- ---- blanks

pub record Passed (x r : List ℕ) : Type 0 where
  pub gap : List ℕ
  pub split : x ≡ gap ++ r
  pub blank : Gap gap r
  pub solid : Solid r

pub blanks_passed : (x y r : List ℕ) → x ≡ y → skip between x ≡ got tt r → Passed y r
blanks_passed x y r f e =
    let k = subst (BlanksSound y) (ap (skip between) (sym f) ∙ e) (skip_sound y) in
    record { gap = k.0; split = k.1; blank = k.2; solid = k.3 }

faulty_blanks : (x : List ℕ) (res : Read (Unit {0})) → BlanksSound x res → FaultyIn FaultyBlanks x res
faulty_blanks x (got u r) k = tt
faulty_blanks x (bad e p) k = record { place = k.place; fault = (k.before, k.part, k.shown, k.fault); is_at = k.is_at }

pub blanks_faulty : (x y : List ℕ) → x ≡ y → FaultyIn FaultyBlanks y (skip between x)
blanks_faulty x y e = subst (λ z. FaultyIn FaultyBlanks y (skip between z)) (sym e) (faulty_blanks y (skip between y) (skip_sound y))

-- ---- words

pub word_passed : (ends differs : ErrorCode) (w x y r : List ℕ) → x ≡ y → word_at ends differs (tt {0}) w x ≡ got tt r → y ≡ w ++ r
word_passed ends differs w x y r f e = (subst (WordIs ends differs tt w y) (ap (word_at ends differs tt w) (sym f) ∙ e) (word_is ends differs tt w y)).1

faulty_word : (ends differs : ErrorCode) (w x : List ℕ) (res : Read (Unit {0})) → WordIs ends differs tt w x res → FaultyIn (FaultyWord w ends differs) x res
faulty_word ends differs w x (got u r) k = tt
faulty_word ends differs w x (bad e p) (inl (v, d, q, c, r, i, j, n, f, g)) =
    subst (λ z. FaultAt (FaultyWord w ends differs) x z p) (sym f)
    (subst (λ z. FaultAt (FaultyWord w ends differs) x (Some differs) z) (sym g)
    (subst (λ z. FaultAt (FaultyWord w ends differs) z (Some differs) (here (c ∷ r))) (sym j)
    (record { place = Some v; fault = word_differs v q r c d i n; is_at = refl })))
faulty_word ends differs w x (bad e p) (inr (d, q, i, f, g)) =
    subst (λ z. FaultAt (FaultyWord w ends differs) x z p) (sym f)
    (subst (λ z. FaultAt (FaultyWord w ends differs) x (Some ends) z) (sym g) (record { place = None; fault = word_ends x q d i; is_at = tt }))

pub word_faulty : (ends differs : ErrorCode) (w x y : List ℕ) → x ≡ y → FaultyIn (FaultyWord w ends differs) y (word_at ends differs (tt {0}) w x)
word_faulty ends differs w x y e = subst (λ z. FaultyIn (FaultyWord w ends differs) y (word_at ends differs tt w z)) (sym e) (faulty_word ends differs w y (word_at ends differs tt w y) (word_is ends differs tt w y))

-- ---- strings

abbrev pub AtSound : List ℕ → Read (List ℕ × Bool) → Type 0
AtSound x (got a r) = (s : List ℕ) × (x ≡ s ++ r) × Str s a.0 a.1
AtSound x (bad e p) = FaultAt FaultyString x e p

from_string : (x : List ℕ) (res : Read (List ℕ × Bool)) → StringSound x res → AtSound x res
from_string x (got a r) k = k
from_string x (bad e p) k = record { place = k.place; fault = faulty k.fault; is_at = k.is_at }

pub at_sound : (x : List ℕ) → AtSound x (string_at x)
unfolding string_at
at_sound [] = record { place = None; fault = string_missing; is_at = tt }
at_sound (c ∷ r) =
    by_test (AtSound (c ∷ r)) (is_quote c) _ _ (λ h. from_string (c ∷ r) (string (c ∷ r)) (string_sound c r h))
    (λ h. record { place = Some []; fault = no_quote c r h; is_at = refl })

pub record StringTaken (x u r : List ℕ) (escape_free : Bool) : Type 0 where
  pub string : List ℕ
  pub split : x ≡ string ++ r
  pub is_string : Str string u escape_free

pub string_taken : (x y u r : List ℕ) (escape_free : Bool) → x ≡ y → string_at x ≡ got (u, escape_free) r → StringTaken y u r escape_free
string_taken x y u r escape_free f e =
    let k = subst (AtSound y) (ap string_at (sym f) ∙ e) (at_sound y) in
    record { string = k.0; split = k.1; is_string = k.2 }

faulty_string : (x : List ℕ) (res : Read (List ℕ × Bool)) → AtSound x res → FaultyIn FaultyString x res
faulty_string x (got a r) k = tt
faulty_string x (bad e p) k = k

pub string_faulty : (x y : List ℕ) → x ≡ y → FaultyIn FaultyString y (string_at x)
string_faulty x y e = subst (λ z. FaultyIn FaultyString y (string_at z)) (sym e) (faulty_string y (string_at y) (at_sound y))

-- a string in front is read
string_quoted : {s u : List ℕ} {escape_free : Bool} (r : List ℕ) → Str s u escape_free → string_at (s ++ r) ≡ string (s ++ r)
unfolding string_at
string_quoted r (quoted k i) = rw k refl

string_in_front : {s u : List ℕ} {escape_free : Bool} (r : List ℕ) → Str s u escape_free → string_at (s ++ r) ≡ got (u, escape_free) r
string_in_front r k = string_quoted r k ∙ string_complete r k

-- what can be read is refused only where memory runs out
pub of_memory : {A : Type 0} (r : Refusal) (a : A) (x : List ℕ) → Refuses {A = A} r (gave a x) → r ≡ refusal.OutOfMemory
of_memory {A = A} (refusal.TokenError c left) a x h = absurd (gave_failed A a x (Some c) left h)
of_memory {A = A} (refusal.InvalidNumber left) a x h = absurd (gave_failed A a x None (Some left) h)
of_memory {A = A} (refusal.TooLarge left) a x h = absurd (gave_failed A a x None (Some left) h)
of_memory {A = A} (refusal.UnpairedSurrogate k left) a x h = absurd (gave_failed A a x None (Some left) h)
of_memory refusal.OutOfMemory a x h = refl

-- what can be read isn't refused with a fault
pub never_refused : {A : Type 0} (r : Refusal) (m : Read A) (a : A) (x : List ℕ) → m ≡ got a x → Refuses r (outcome m) → HasFault r → ⊥
never_refused r m a x e h k = no_memory r k (of_memory r a x (subst (λ z. Refuses r (outcome z)) e h))

pub string_never : (x y s u t : List ℕ) (escape_free : Bool) (r : Refusal) → x ≡ y → Refuses r (outcome (string_at x)) → HasFault r → y ≡ s ++ t → Str s u escape_free → ⊥
string_never x y s u t escape_free r f h k e p = never_refused r (string_at x) (u, escape_free) t (ap string_at (f ∙ e) ∙ string_in_front t p) h k

-- memory doesn't run out at an escape-free string in front
pub escape_free_memory : (x y s u t : List ℕ) (r : Refusal) → x ≡ y → Refuses r (outcome (string_at x)) → (r ≡ refusal.OutOfMemory → (u t : List ℕ) → string_at x ≡ got (u, true) t → ⊥) → y ≡ s ++ t → Str s u true → ⊥
escape_free_memory x y s u t r f h k e p =
    let read : string_at x ≡ got (u, true) t = ap string_at (f ∙ e) ∙ string_in_front t p in
    k (of_memory r (u, true) t (subst (λ z. Refuses r (outcome z)) read h)) u t read

-- ---- names

abbrev pub NameAtSound : List ℕ → Read (List ℕ × Bool) → Type 0
NameAtSound x (got a r) = (s : List ℕ) × (x ≡ s ++ r) × Ident s a.0 a.1 × Stopped r
NameAtSound x (bad e p) = FaultAt FaultyName x e p

from_name : (x : List ℕ) (res : Read (List ℕ × Bool)) → NameSound x res → NameAtSound x res
from_name x (got a r) k = k
from_name x (bad e p) k = record { place = k.place; fault = FaultyName.faulty k.fault; is_at = k.is_at }

no_name_at : (c : ℕ) (r : List ℕ) → ((c == 92) || is_identifier_start c) ≡ false → identifier (c ∷ r) ≡ bad (Some ExpectedIdentifier) (here (c ∷ r))
unfolding identifier
no_name_at c r h = neither _ _ _ (c == 92) (is_identifier_start c) h
  where
    neither : {A : Type 0} (x y z : A) (a b : Bool) → (a || b) ≡ false → cond a x (cond b y z) ≡ z
    neither x y z true b e = absurd (cc)
    neither x y z false true e = absurd (cc)
    neither x y z false false e = refl

name_end_at : identifier [] ≡ bad (Some EofParsingIdentifier) inner
unfolding identifier
name_end_at = refl

pub name_at_sound : (x : List ℕ) → NameAtSound x (identifier x)
name_at_sound [] = subst (NameAtSound []) (sym name_end_at) (record { place = None; fault = name_missing; is_at = tt })
name_at_sound (c ∷ r) = by_flag ((c == 92) || is_identifier_start c) refl
  where
    by_flag : (b : Bool) → ((c == 92) || is_identifier_start c) ≡ b → NameAtSound (c ∷ r) (identifier (c ∷ r))
    by_flag true h = from_name (c ∷ r) (identifier (c ∷ r)) (name_sound c r h)
    by_flag false h = subst (NameAtSound (c ∷ r)) (sym (no_name_at c r h)) (record { place = Some []; fault = no_name c r h; is_at = refl })

pub record NameTaken (x u r : List ℕ) (escape_free : Bool) : Type 0 where
  pub name : List ℕ
  pub split : x ≡ name ++ r
  pub is_name : Ident name u escape_free
  pub stops : Stopped r

pub name_taken : (x y u r : List ℕ) (escape_free : Bool) → x ≡ y → identifier x ≡ got (u, escape_free) r → NameTaken y u r escape_free
name_taken x y u r escape_free f e =
    let k = subst (NameAtSound y) (ap identifier (sym f) ∙ e) (name_at_sound y) in
    record { name = k.0; split = k.1; is_name = k.2; stops = k.3 }

faulty_name : (x : List ℕ) (res : Read (List ℕ × Bool)) → NameAtSound x res → FaultyIn FaultyName x res
faulty_name x (got a r) k = tt
faulty_name x (bad e p) k = k

pub name_faulty : (x y : List ℕ) → x ≡ y → FaultyIn FaultyName y (identifier x)
name_faulty x y e = subst (λ z. FaultyIn FaultyName y (identifier z)) (sym e) (faulty_name y (identifier y) (name_at_sound y))

-- memory doesn't run out at an escape-free name in front
pub escape_free_name_memory : (x y s u t : List ℕ) (c : ℕ) (r : Refusal) → x ≡ y → Refuses r (outcome (identifier x)) → (r ≡ refusal.OutOfMemory → (u t : List ℕ) → identifier x ≡ got (u, true) t → ⊥) → y ≡ s ++ c ∷ t → Ident s u true
    → goes_on_name c ≡ false → ⊥
escape_free_name_memory x y s u t c r f h k e p stops =
    let read : identifier x ≡ got (u, true) (c ∷ t) = ap identifier (f ∙ e) ∙ name_complete c t p stops in
    k (of_memory r (u, true) (c ∷ t) (subst (λ z. Refuses r (outcome z)) read h)) u (c ∷ t) read

pub name_never : (x y s u t : List ℕ) (c : ℕ) (escape_free : Bool) (r : Refusal) → x ≡ y → Refuses r (outcome (identifier x)) → HasFault r → y ≡ s ++ c ∷ t → Ident s u escape_free → goes_on_name c ≡ false → ⊥
name_never x y s u t c escape_free r f h k e p stops = never_refused r (identifier x) (u, escape_free) (c ∷ t) (ap identifier (f ∙ e) ∙ name_complete c t p stops) h k
