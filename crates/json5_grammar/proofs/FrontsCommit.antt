-- A document that begins with a front goes on with what is expected there.
use Rattle.std.proofs.Common.{◌≡◌, ℕ, suc, ◌-◌, List, [], ◌∷◌, ◌++◌, length, refl, ap, sym, ◌∙◌, ◌⊎◌, inl, inr, Option, subst, true, false}
use Rattle.std.proofs.lemmas.List.{append-nil}
use Rattle.json5_grammar.specs.Faults.Codes.{ErrorCode}
use Rattle.json5_grammar.specs.Language.Blanks.{LastBlanks}
use Rattle.json5_grammar.specs.Faults.Continuations.{GoesOn}
use Rattle.json5_grammar.specs.Language.Documents.{Doc}
use Rattle.json5_grammar.specs.Faults.Fronts.{BracketKind, of_array, of_object, Bracket, Expects, closing, Front, value, element, key, colon, comma, end}
use Rattle.json5_grammar.specs.Model.Collections.{IsSign, Tail, MembersTail}
use Rattle.json5_grammar.specs.Model.Reading.{Place, here, inner, Read, got, bad, and_then}
use Rattle.json5_grammar.specs.Model.ReadBlanks.{skip, between}
use Rattle.json5_grammar.specs.Model.ReadSteps.{forget, rest_of_bracket}
use Rattle.json5_grammar.specs.Model.ReadValues.{colon_at, read_elements, read_members, after_element, after_member, read, at_end}
use Rattle.json5_grammar.specs.Language.Trees.{Tree, Trees, Members, no_more, more, no_member, member}
use Rattle.json5_grammar.specs.Language.Values.{Reads}
use Rattle.json5_grammar.proofs.BlanksSound.{gap_end}
use Rattle.json5_grammar.proofs.FoundPlaces.{Found, found_then, found_after}
use Rattle.json5_grammar.proofs.ArraysPartlyRead.{tail_goes}
use Rattle.json5_grammar.proofs.ValuesSound.{IsGap, IsValue, AreElements, AreMembers, gap_found, read_found, items_found, entries_found, after_found, after_member_found, colon_found, tail_gap, pairs_gap, sign_gap, phrase_of}
use Rattle.json5_grammar.proofs.DocumentsRead.{document_complete}
use Rattle.json5_grammar.proofs.FrontsContinue.{front_same}
use Rattle.json5_grammar.proofs.FrontsLeft.{Finish, ending, document_ends, room, rest_after, value_then, left_at, whole_of, Fits, front_fits}
use Rattle.json5_grammar.proofs.FrontsReached.{front_reached}

-- ---- what was read whole was read within

-- what is refused within a bracket is refused in the whole
whole_bad : (finish : Finish) (limit : ℕ) (x : List ℕ) (o : List Bracket) (e : Option ErrorCode) (p : Place)
    → (q : Place) × (whole_of finish limit x o (bad e p) ≡ bad e q)
whole_bad finish limit x [] e p = (p, refl)
whole_bad finish limit x (b ∷ o) e (here q) = whole_bad finish limit x o e (here q)
whole_bad finish limit x (b ∷ o) e inner = whole_bad finish limit x o e _

within_got : (finish : Finish) (limit : ℕ) (x : List ℕ) (o : List Bracket) (m : Read (Unit {0})) → whole_of finish limit x o m ≡ got tt []
    → (q : List ℕ) × (m ≡ got tt q)
within_got finish limit x o (got tt q) e = (q, refl)
within_got finish limit x o (bad c p) e = let k = whole_bad finish limit x o c p in let same : got tt [] ≡ bad c k.0 = sym e ∙ k.1 in absurd (cc)

-- ---- what was read goes on so

-- what was read, where it was forgotten
forgot : {A : Type 0} (P : A → List ℕ → Type 0) (y : List ℕ) (m : Read A) (q : List ℕ) → Found P y m → forget m ≡ got tt q
    → (a : A) × (r : List ℕ) × P a r
forgot P y (got a r) q f e = (a, r, f)
forgot P y (bad c p) q f e = absurd (cc)

-- within a bracket: elements, pairs, and what follows them
array_goes : (o : List Bracket) (y r : List ℕ) (ts : Trees) → Tail ts false y r → GoesOn o element y
array_goes o y r ts h = by_tail (tail_goes ts false y r h)
  where
    by_tail : ((ts ≡ no_more) × IsSign 93 y r) ⊎ ((t : Tree) × (us : Trees) × (z : List ℕ) × (ts ≡ more t us) × Reads y t z × Tail us true z r)
        → GoesOn o element y
    by_tail (inl (e, s)) = inr (r, s)
    by_tail (inr (t, us, z, e, p, k)) = inl (t, z, p)

object_goes : (o : List Bracket) (y r : List ℕ) (ps : Members) → MembersTail ps false y r → GoesOn o key y
object_goes o y r no_member s = inr (r, s)
object_goes o y r (member u escape_free t ps) (k, z, a, v, tl) = inl (u, escape_free, k, a)

array_comma : (b : Bracket) (o : List Bracket) (y r : List ℕ) (ts : Trees) → b.kind ≡ of_array → Tail ts true y r → GoesOn (b ∷ o) comma y
array_comma b o y r no_more e (inl s) = inr (r, subst (λ k. IsSign (closing k) y r) (sym e) s)
array_comma b o y r no_more e (inr (z, s, c)) = inl (z, s)
array_comma b o y r (more t ts) e (z, (q, s, p), tl) = inl (q, s)

object_comma : (b : Bracket) (o : List Bracket) (y r : List ℕ) (ps : Members) → b.kind ≡ of_object → MembersTail ps true y r → GoesOn (b ∷ o) comma y
object_comma b o y r no_member e (inl s) = inr (r, subst (λ k. IsSign (closing k) y r) (sym e) s)
object_comma b o y r no_member e (inr (z, s, c)) = inl (z, s)
object_comma b o y r (member u escape_free t ps) e (k, z, (q, s, a), v, tl) = inl (q, s)

module _ (limit : ℕ) where
  -- a value, a colon and its value, the end
  value_goes : (o : List Bracket) (y q : List ℕ) (m : Read (Unit {0})) → Found (IsGap y) y m
      → and_then m (λ u z. value_then ending limit o z) ≡ got tt q → GoesOn o value y
  value_goes o y q (got u z) (w, e, g, s) k = by_value (read (room limit o) z) (read_found (room limit o) z) k
    where
      by_value : (m : Read Tree) → Found (IsValue (room limit o) z) z m → and_then (forget m) (λ u r. rest_after ending limit o r) ≡ got tt q
          → GoesOn o value y
      by_value (got t r) v k = (t, r, (phrase_of (room limit o) y w z r t e g v).0)
      by_value (bad c p) v k = absurd (cc)
  value_goes o y q (bad c p) f k = absurd (cc)

  colon_goes : (o : List Bracket) (y q : List ℕ) (m : Read (Unit {0})) → Found (IsGap y) y m
      → and_then (and_then m (λ u z. and_then (colon_at z) (λ v r. skip between r))) (λ u z. value_then ending limit o z) ≡ got tt q
      → GoesOn o colon y
  colon_goes o y q (got u z) (w, e, g, s) k = by_colon (colon_at z) (colon_found z) k
    where
      by_colon : (m : Read (Unit {0})) → Found (λ u r. IsSign 58 z r) z m
          → and_then (and_then m (λ v r. skip between r)) (λ u r. value_then ending limit o r) ≡ got tt q → GoesOn o colon y
      by_colon (got v r) h k = (r, sign_gap 58 w y z r e g h)
      by_colon (bad c p) h k = absurd (cc)
  colon_goes o y q (bad c p) f k = absurd (cc)

  end_goes : (y q : List ℕ) (m : Read (Unit {0})) → Found (IsGap y) y m → and_then m (λ u r. forget (at_end Tree.null r)) ≡ got tt q → LastBlanks y
  end_goes y q (got u []) (w, e, g, s) k = subst LastBlanks (sym (e ∙ append-nil w)) (gap_end g)
  end_goes y q (got u (c ∷ r)) f k = absurd (cc)
  end_goes y q (bad c p) f k = absurd (cc)

  -- what reading elements and pairs finds, from their start and after one
  members_found : (d : ℕ) (z : List ℕ) → Found (AreElements d false z) z (read_elements (read d) (suc (length z)) z)
  members_found d z = items_found d (read d) (read_found d) (suc (length z)) z

  pairs_found : (d : ℕ) (z : List ℕ) → Found (AreMembers d false z) z (read_members (read d) (suc (length z)) z)
  pairs_found d z = entries_found d (read d) (read_found d) (suc (length z)) z

  members_after : (d : ℕ) (y : List ℕ)
      → Found (AreElements d true y) y (and_then (skip between y) (λ u z. after_element (λ q. read_elements (read d) (suc (length q)) q) z))
  members_after d y = found_then (IsGap y) (AreElements d true y) y (skip between y) _ (gap_found y)
      (λ u z g.
      found_after (AreElements d true z) (AreElements d true y) g.0 y z _ g.1
      (after_found d (λ q. read_elements (read d) (suc (length q)) q) (members_found d) z)
      (λ ts r m. (tail_gap ts true g.0 y z r g.1 g.2 m.0, m.1)))

  pairs_after : (d : ℕ) (y : List ℕ)
      → Found (AreMembers d true y) y (and_then (skip between y) (λ u z. after_member (λ q. read_members (read d) (suc (length q)) q) z))
  pairs_after d y = found_then (IsGap y) (AreMembers d true y) y (skip between y) _ (gap_found y)
      (λ u z g.
      found_after (AreMembers d true z) (AreMembers d true y) g.0 y z _ g.1
      (after_member_found d (λ q. read_members (read d) (suc (length q)) q) (pairs_found d) z)
      (λ ps r m. (pairs_gap ps true g.0 y z r g.1 g.2 m.0, m.1)))

  -- what is left and was read goes on with what is expected
  left_goes : (o : List Bracket) (a : Expects) (y q : List ℕ) → Fits o a → left_at ending limit o a y ≡ got tt q → GoesOn o a y
  unfolding rest_of_bracket
  left_goes o value y q f e = value_goes o y q (skip between y) (gap_found y) e
  left_goes [] element y q f e = absurd f
  left_goes (b ∷ o) element y q f e =
      let d : ℕ = room limit (b ∷ o) in
      let (ts, r, h) =
      forgot (AreElements d false y) y (read_elements (read d) (suc (length y)) y) q (members_found d y) (ap (λ k. rest_of_bracket k false d y) (sym f) ∙ e) in
      array_goes (b ∷ o) y r ts h.0
  left_goes [] key y q f e = absurd f
  left_goes (b ∷ o) key y q f e =
      let d : ℕ = room limit (b ∷ o) in
      let (ps, r, h) =
      forgot (AreMembers d false y) y (read_members (read d) (suc (length y)) y) q (pairs_found d y) (ap (λ k. rest_of_bracket k false d y) (sym f) ∙ e) in
      object_goes (b ∷ o) y r ps h.0
  left_goes o colon y q f e = colon_goes o y q (skip between y) (gap_found y) e
  left_goes [] comma y q f e = absurd f
  left_goes (b ∷ o) comma y q f e = by_kind b.kind refl
    where
      d : ℕ
      d = limit - suc (length o)

      by_kind : (k : BracketKind) → b.kind ≡ k → GoesOn (b ∷ o) comma y
      by_kind of_array i =
          let (ts, r, h) = forgot (AreElements d true y) y _ q (members_after d y) (ap (λ k. rest_of_bracket k true d y) (sym i) ∙ e) in
          array_comma b o y r ts i h.0
      by_kind of_object i =
          let (ps, r, h) = forgot (AreMembers d true y) y _ q (pairs_after d y) (ap (λ k. rest_of_bracket k true d y) (sym i) ∙ e) in
          object_comma b o y r ps i h.0
  left_goes [] end y q f e = end_goes y q (skip between y) (gap_found y) e
  left_goes (b ∷ o) end y q f e = absurd f

-- a document that begins with a front and a character goes on, from the front, with what is expected
pub front_commits : {limit : ℕ} {f r : List ℕ} {o : List Bracket} {a : Expects} (h : ℕ) (z : List ℕ) (t : Tree) → Front limit f (h ∷ r) o a
    → Doc limit (f ++ h ∷ z) t → GoesOn o a (h ∷ z)
front_commits {limit = limit} {f = f} {o = o} {a = a} h z t there d =
    let x = f ++ h ∷ z in
    let moved = front_same (h ∷ z) refl there in
    let (q, e) =
    within_got ending limit x o (left_at ending limit o a (h ∷ z))
    (sym (document_ends limit x ∙ front_reached ending x moved refl) ∙ ap forget (document_complete limit x t d)) in
    left_goes limit o a (h ∷ z) q (front_fits there) e
