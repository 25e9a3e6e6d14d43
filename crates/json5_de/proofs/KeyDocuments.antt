-- A key's text that is read as a document.
use Rattle.std.proofs.Common.{◌≡◌, ℕ, ◌≤◌, Bool, List, [], ◌∷◌, ◌++◌, refl, ap, ◌∙◌, subst, arith, ◌⊎◌, inl, inr, Option, Some}
use Rattle.std.proofs.lemmas.List.{append-nil}
use Rattle.json5_grammar.specs.declared.error_code.ErrorCode.{ErrorCode}
use Rattle.json5_grammar.specs.Language.Blanks.{Gap}
use Rattle.json5_grammar.specs.Language.Documents.{Doc, max_depth}
use Rattle.json5_grammar.specs.Model.Reading.{Read, got, bad, and_then}
use Rattle.json5_grammar.specs.Model.ReadBlanks.{skip, between}
use Rattle.json5_grammar.specs.Model.ReadValues.{at_end, document, read}
use Rattle.json5_grammar.specs.Language.Trees.{Tree, depth}
use Rattle.json5_grammar.specs.Language.Values.{Val}
use Rattle.json5_grammar.proofs.BlanksRead.{skip_blanks, skip_last}
use Rattle.json5_grammar.proofs.BlanksSound.{gap_end}
use Rattle.json5_grammar.proofs.FoundPlaces.{found}
use Rattle.json5_grammar.proofs.ValueHeads.{val_head, skip_value, stops_last}
use Rattle.json5_grammar.proofs.ValuesRead.{read_complete}
use Rattle.json5_grammar.proofs.ValuesSound.{gap_found, IsGap, read_sound}
use Rattle.json5_types.specs.declared.error.Error.{Error}
use Rattle.json5_tokens.specs.Cursor.{Says}
use Rattle.json5_types.specs.Errors.{LacksMemory}
use Rattle.json5_de.specs.Faults.{RefusedByOrMemory}
use Rattle.json5_de.specs.KeyKinds.{converted, document_of, NotDocument, no_value, more_follows, ConvertsDocuments}
use Rattle.json5_de.specs.TokenKinds.{Kind, RefusedAs}
use Rattle.json5_de.specs.State.{at_start}
use Rattle.json5_de.specs.WholeInputs.{RefusesReading, in_value, after_value}
use Rattle.json5_de.proofs.BracketSteps.{failed_of}
use Rattle.json5_de.proofs.TokenKinds.{or_memory_as}
use Rattle.json5_de.proofs.ReadSteps.{value_gap}

-- ---- which texts are documents

-- a document is read
pub document_read : (x : List ℕ) (t : Tree) → Doc max_depth x t → document max_depth x ≡ got t []
unfolding document
document_read x t d =
    ap (document max_depth) d.whole
    ∙ rw (skip_blanks (d.text ++ d.after) d.blank, skip_value d.after (val_head d.value), read_complete d.value d.after (stops_last d.text d.last) max_depth d.shallow, skip_last d.last) refl

first_step : {A B : Type 0} (m : Read A) (f : A → List ℕ → Read B) (b : B) (r : List ℕ) → and_then m f ≡ got b r → (a : A) × (y : List ℕ) × (m ≡ got a y) × (f a y ≡ got b r)
first_step (got a y) f b r e = (a, y, refl, e)
first_step (bad c p) f b r e = absurd (cc)

nothing_follows : (t v : Tree) (q r : List ℕ) → at_end t q ≡ got v r → (t ≡ v) × (q ≡ [])
nothing_follows t v [] r e = (cc, refl)
nothing_follows t v (c ∷ q) r e = absurd (cc)

-- what is read is a document
pub document_sound : (x : List ℕ) (t : Tree) (r : List ℕ) → document max_depth x ≡ got t r → Doc max_depth x t
unfolding document
document_sound x t r e =
    let (u, y, passed, value_on) = first_step (skip between x) _ t r e in
    let (v, z, taken, rest_on) = first_step (read max_depth y) _ t r value_on in
    let (w, q, passed_last, last) = first_step (skip between z) _ t r rest_on in
    let (front, split, gap, solid) = found (IsGap x) x (skip between x) u y (gap_found x) passed in
    let (s, is_front, value, stops, shallow) = read_sound max_depth y z v taken in
    let (rest, split_last, last_gap, last_solid) = found (IsGap z) z (skip between z) w q (gap_found z) passed_last in
    let (same, none) = nothing_follows v t q r last in
    record {
      before = front;
      text = s;
      after = rest;
      whole = split ∙ ap (λ k. front ++ k) (is_front ∙ ap (λ k. s ++ k) (split_last ∙ ap (λ k. rest ++ k) none ∙ append-nil rest));
      blank = value_gap front y z value gap is_front;
      value = subst (Val s) same value;
      last = gap_end (subst (Gap rest) none last_gap);
      shallow = subst (λ k. depth k ≤ max_depth) same shallow;
    }

-- ---- what a text converts to

-- a document whose tree converts
pub converts : {C : Type 0} (convert : Tree → Option C) (u : List ℕ) (escape_free : Bool) (t : Tree) (c : C) → Doc max_depth u t → convert t ≡ Some c → document_of convert u escape_free ≡ Some c
converts convert u escape_free t c doc is = ap (converted convert) (document_read u t doc) ∙ is

-- what converts is such a document
pub is_document : {C : Type 0} (convert : Tree → Option C) (u : List ℕ) (escape_free : Bool) (c : C) → document_of convert u escape_free ≡ Some c → (t : Tree) × Doc max_depth u t × (convert t ≡ Some c)
is_document {C = C} convert u escape_free c e = by_answer (document max_depth u) refl e
  where
    by_answer : (m : Read Tree) → document max_depth u ≡ m → converted convert m ≡ Some c → (t : Tree) × Doc max_depth u t × (convert t ≡ Some c)
    by_answer (got t r) k is = (t, document_sound u t r k, is)
    by_answer (bad d p) k is = absurd (cc)

pub converts_documents : {C : Type 0} (convert : Tree → Option C) → ConvertsDocuments convert
converts_documents convert u escape_free c = (is_document convert u escape_free c, λ (t, doc, is). converts convert u escape_free t c doc is)

-- ---- why a text is refused

-- memory ran out, or the fault has this code
abbrev pub IsRefusedText : {C : Type 0} → Kind C → List ℕ → Bool → Error → Type 0
IsRefusedText kind u escape_free e = LacksMemory e ⊎ ((reason : Option ErrorCode) × NotDocument kind u escape_free reason × Says reason e)

from_refused : {C : Type 0} (kind : Kind C) (u : List ℕ) (escape_free : Bool) (e : Error) → RefusedByOrMemory kind.IsFault (at_start max_depth u) e → IsRefusedText kind u escape_free e
from_refused kind u escape_free e (inl m) = inl m
from_refused kind u escape_free e (inr k) = let f = k refl in inr (f.reason, no_value f.fault, f.says)

pub refused_text : {C : Type 0} (kind : Kind C) (u : List ℕ) (escape_free : Bool) (e : Error) → RefusesReading kind.convert (RefusedAs kind) max_depth u e → IsRefusedText kind u escape_free e
refused_text kind u escape_free e (in_value new k) = from_refused kind u escape_free e (or_memory_as kind.may_lack_memory (at_start max_depth u) e k)
refused_text kind u escape_free e (after_value t c new took is k) = let f = k (failed_of took.rest) in inr (f.reason, more_follows took.reads (let shallow = took.shallow in omega (arith, shallow)) is f.fault, f.says)
