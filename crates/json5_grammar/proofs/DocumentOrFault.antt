-- An input is a document, or it has a fault of the table, and not both.
use Rattle.std.proofs.Common.{◌≡◌, ℕ, List, [], ◌∷◌, ◌++◌, refl, ap, sym, ◌∙◌, subst, ◌⊎◌, inl, inr, Option, Some, None}
use Rattle.std.proofs.lemmas.List.{append-nil}
use Rattle.json5_grammar.specs.Faults.Blames.{IsBlamed, TextBlame, ValueBlame, IsDocument, HasValue}
use Rattle.json5_grammar.specs.Language.Blanks.{LastBlanks, Gap}
use Rattle.json5_grammar.specs.Faults.Codes.{ErrorCode, Shown}
use Rattle.json5_grammar.specs.Language.Documents.{Doc}
use Rattle.json5_grammar.specs.Faults.{FaultWhere, Fault, ValueFault, fault, Anywhere, InValue}
use Rattle.json5_grammar.specs.Faults.Fronts.{Expects}
use Rattle.json5_grammar.specs.Model.Reading.{Place, here, inner, Read, got, bad, and_then, IsAt}
use Rattle.json5_grammar.specs.Model.ReadBlanks.{skip, between}
use Rattle.json5_grammar.specs.Model.ReadValues.{read, at_end, document}
use Rattle.json5_grammar.specs.Language.Trees.{Tree}
use Rattle.json5_grammar.specs.Language.Values.{Reads}
use Rattle.json5_grammar.proofs.BlanksSound.{gap_blanks, gap_end}
use Rattle.json5_grammar.proofs.FoundPlaces.{Found}
use Rattle.json5_grammar.proofs.Refusals.{Refuses, same_place, one_refusal, not_both}
use Rattle.json5_grammar.proofs.OneTree.{phrase_reader, phrase_complete}
use Rattle.json5_grammar.proofs.ValueHeads.{val_head}
use Rattle.json5_grammar.proofs.ValuesSound.{IsGap, IsValue, gap_found, read_found}
use Rattle.json5_grammar.proofs.DocumentsRead.{to_end, document_complete}
use Rattle.json5_grammar.proofs.TokenFaults.{Scope, Stands, Judged}
use Rattle.json5_grammar.proofs.ValueFaults.{of_text, of_value, document_judged, phrase_judged}
use Rattle.json5_grammar.proofs.FaultsRefused.{fault_refused, value_fault_refused}

-- ---- what is read is a document

module _ (limit : ℕ) (x : List ℕ) (t : Tree) (r : List ℕ) where
  -- a document from its parts
  document_from : (w y z v : List ℕ) (u : Tree) → x ≡ w ++ y → Gap w y → IsValue limit y u z → z ≡ v ++ [] → Gap v [] → Doc limit x u
  document_from w y z v u e g (p, k, val, st, low) i h =
      let head = val_head val in
      let begins : y ≡ head.char ∷ (head.more ++ z) = k ∙ ap (λ q. q ++ z) head.is in
      record {
        before = w;
        text = p;
        after = z;
        whole = e ∙ ap (λ q. w ++ q) k;
        blank = gap_blanks head.char (head.more ++ z) (subst (Gap w) begins g);
        value = val;
        last = subst LastBlanks (sym (i ∙ append-nil v)) (gap_end h);
        shallow = low;
      }

  -- what is read whole is a document
  pub document_sound : document limit x ≡ got t r → Doc limit x t
  unfolding document
  document_sound e = after_gap (skip between x) (gap_found x) e
    where
      after_value : (w y z : List ℕ) (u : Tree) (m : Read (Unit {0})) → x ≡ w ++ y → Gap w y → IsValue limit y u z → Found (IsGap z) z m
          → and_then m (λ v q. at_end u q) ≡ got t r → Doc limit x t
      after_value w y z u (got tt []) e g v (p, i, h, s) k = let same : u ≡ t = cc in subst (Doc limit x) same (document_from w y z p u e g v i h)
      after_value w y z u (got tt (c ∷ q)) e g v f k = absurd (cc)
      after_value w y z u (bad c p) e g v f k = absurd (cc)

      after_blanks : (w y : List ℕ) (m : Read Tree) → x ≡ w ++ y → Gap w y → Found (IsValue limit y) y m → and_then m to_end ≡ got t r → Doc limit x t
      after_blanks w y (got u z) e g v k = after_value w y z u (skip between z) e g v (gap_found z) k
      after_blanks w y (bad c p) e g v k = absurd (cc)

      after_gap : (m : Read (Unit {0})) → Found (IsGap x) x m → and_then m (λ u y. and_then (read limit y) to_end) ≡ got t r → Doc limit x t
      after_gap (got u y) (w, i, g, s) k = after_blanks w y (read limit y) i g (read_found limit y) k
      after_gap (bad c p) g k = absurd (cc)

-- ---- judged

-- x has a fault of this code at this position, where something is expected that the test allows
pub record Faulty (Where : Expects → Type 0) (limit : ℕ) (x : List ℕ) (code : Option ErrorCode) (place : Option (List ℕ)) : Type 0 where
  pub before : List ℕ
  pub part : List ℕ
  pub shown : Shown
  pub found : FaultWhere Where limit x code place before part shown

-- outside of brackets the position is that of reading
stood : (x : List ℕ) (there : Option (List ℕ)) (p : Place) → Stands x [] there p → IsAt x there p
stood x (Some b) (here q) k = k
stood x (Some b) inner k = absurd (cc)
stood x None (here q) k = absurd k
stood x None inner k = tt

-- what reading refuses with is a fault
refused_judged : (s : Scope) (m : Read Tree) (code : Option ErrorCode) (place : Option (List ℕ)) → Judged s [] m → Refuses m s.text code place
    → Faulty s.Where s.limit s.text code place
refused_judged s (got t r) code place j (p, e, i) = absurd (cc)
refused_judged s (bad c q) code place j (p, e, i) =
    let codes : c ≡ code = cc in
    let places : q ≡ p = cc in
    let same : j.place ≡ place = same_place s.text j.place place p (subst (IsAt s.text j.place) places (stood s.text j.place q j.stands)) i in
    let coded = subst (λ z. FaultWhere s.Where s.limit s.text z j.place j.before j.part j.shown) codes j.found in
    record {
      before = j.before;
      part = j.part;
      shown = j.shown;
      found = subst (λ z. FaultWhere s.Where s.limit s.text code z j.before j.part j.shown) same coded;
    }

-- of a text
pub refused_faulty : (limit : ℕ) (x : List ℕ) (code : Option ErrorCode) (place : Option (List ℕ)) → Refuses (document limit x) x code place
    → Faulty Anywhere limit x code place
refused_faulty limit x code place k = refused_judged (of_text limit x) (document limit x) code place (document_judged limit x) k

-- and of the value in front
pub value_faulty : (limit : ℕ) (x : List ℕ) (code : Option ErrorCode) (place : Option (List ℕ)) → Refuses (phrase_reader limit x) x code place
    → Faulty InValue limit x code place
value_faulty limit x code place k = refused_judged (of_value limit x) (phrase_reader limit x) code place (phrase_judged limit x) k

-- a text is a document, or it has a fault
pub document_or_fault : (limit : ℕ) (x : List ℕ) → IsDocument limit x ⊎ IsBlamed (TextBlame limit) x
document_or_fault limit x = by_answer (document limit x) refl (document_judged limit x)
  where
    by_answer : (m : Read Tree) → document limit x ≡ m → Judged (of_text limit x) [] m → IsDocument limit x ⊎ IsBlamed (TextBlame limit) x
    by_answer (got t r) e j = inl (t, document_sound limit x t r e)
    by_answer (bad c p) e j = inr (record { code = c; place = j.place; before = j.before; part = j.part; shown = j.shown }, j.found)

-- and not both
pub no_fault : {limit : ℕ} {x b p : List ℕ} {e : Option ErrorCode} {pl : Option (List ℕ)} {h : Shown} (t : Tree) → Doc limit x t
    → Fault limit x e pl b p h → ⊥
no_fault {limit = limit} {x = x} {e = e} {pl = pl} t d f = not_both (document limit x) x [] t e pl (document_complete limit x t d) (fault_refused f)

-- of one code and one position
pub one_fault : {limit : ℕ} {x b c p q : List ℕ} {e d : Option ErrorCode} {pl pm : Option (List ℕ)} {h k : Shown} → Fault limit x e pl b p h
    → Fault limit x d pm c q k → (e ≡ d) × (pl ≡ pm)
one_fault {limit = limit} {x = x} {e = e} {d = d} {pl = pl} {pm = pm} f g =
    one_refusal (document limit x) x e d pl pm (fault_refused f) (fault_refused g)

-- a fault that is looked for in some states alone is one of the text
pub anywhere : {Where : Expects → Type 0} {limit : ℕ} {x b p : List ℕ} {e : Option ErrorCode} {pl : Option (List ℕ)} {h : Shown}
    → FaultWhere Where limit x e pl b p h → Fault limit x e pl b p h
anywhere (fault f w t) = fault f tt t

-- ---- values

-- a value is in front, or it has a fault
pub value_or_fault : (limit : ℕ) (x : List ℕ) → HasValue limit x ⊎ IsBlamed (ValueBlame limit) x
value_or_fault limit x = by_answer (skip between x) (gap_found x) (phrase_judged limit x)
  where
    by_value : (w y : List ℕ) (m : Read Tree) → x ≡ w ++ y → Gap w y → Found (IsValue limit y) y m → Judged (of_value limit x) [] m
        → HasValue limit x ⊎ IsBlamed (ValueBlame limit) x
    by_value w y (got t r) e g (s, k, v, st, low) j =
        let head = val_head v in
        let begins : y ≡ head.char ∷ (head.more ++ r) = k ∙ ap (λ q. q ++ r) head.is in
        let reads : Reads x t r = record {
          front = w;
          phrase = s;
          split = e ∙ ap (λ q. w ++ q) k;
          blank = gap_blanks head.char (head.more ++ r) (subst (Gap w) begins g);
          value = v;
          stops = st;
        } in
        inl (t, r, reads, low)
    by_value w y (bad c p) e g v j = inr (record { code = c; place = j.place; before = j.before; part = j.part; shown = j.shown }, j.found)

    by_answer : (m : Read (Unit {0})) → Found (IsGap x) x m → Judged (of_value limit x) [] (and_then m (λ u y. read limit y))
        → HasValue limit x ⊎ IsBlamed (ValueBlame limit) x
    by_answer (got u y) (w, e, g, s) j = by_value w y (read limit y) e g (read_found limit y) j
    by_answer (bad c p) g j = inr (record { code = c; place = j.place; before = j.before; part = j.part; shown = j.shown }, j.found)

-- and not both
pub no_value_fault : {limit : ℕ} {x b p : List ℕ} {e : Option ErrorCode} {pl : Option (List ℕ)} {h : Shown} → HasValue limit x
    → ValueFault limit x e pl b p h → ⊥
no_value_fault {limit = limit} {x = x} {e = e} {pl = pl} (t, r, reads, low) f =
    not_both (phrase_reader limit x) x r t e pl (phrase_complete limit x r t reads low) (value_fault_refused f)
