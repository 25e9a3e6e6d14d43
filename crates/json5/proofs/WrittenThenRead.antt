-- A value whose output is read again: what a user's function that writes and reads cites.
use Rattle.std.proofs.Common.{◌≡◌, ◌≤◌, ◌<◌, ◌+◌, ◌⊎◌, inl, inr, ℕ, Bool, true, false, cond, nat_lt, List, [], ◌∷◌, refl, sym, ap, ◌∙◌, subst, arith}
use Rattle.std.specs.Prelude.{Result, MatchResult, Option, ⊤}
use Rattle.std.proofs.lemmas.Bool.Decides.{nat_tests}
use Rattle.json5_grammar.specs.declared.error_code.ErrorCode.TheVariants as codes_of
use Rattle.json5_grammar.specs.Language.Documents.{Doc, max_depth}
use Rattle.json5_grammar.specs.Language.Trees.{Tree, depth, depths, member_depths}
use Rattle.json5_grammar.specs.Written.NumberText.{number_text}
use Rattle.json5_types.specs.declared.error.Error.{Error}
use Rattle.json5_types.specs.Errors.{FaultKind, code, custom, failed_write, kind_of}
use Rattle.json5_tokens.specs.Cursor.{IsOutOfMemory}
use Rattle.json5_de.specs.WholeInputs.{ReadsDocument}
use Rattle.json5_ser.specs.WrittenTrees.{Written, null, boolean, number, text, array, object, Elements, no_element, element, Fields, no_field, field, named, bad}
use Rattle.json5_ser.specs.Out.{Out, Stop, whole, invalid_key, too_deep, no_number, piece, stopped, followed_by, ◌then◌, out, written_text, elements_out, fields_out, opened_by, closed_by, element_out, value_part}
use Rattle.json5_write.specs.WritableNumbers.{is_writable}
use Rattle.json5_ser.specs.EscapeFreeMarks.{marks, element_marks, field_marks}
use Rattle.json5_ser.specs.WholeOutputs.{RefusesToString, StopsAs}
use Rattle.json5.specs.ReadsBack.{ReadsBack}

-- each key has a text
abbrev mutual
  pub HasKeys : Written → Type 0
  HasKeys null = ⊤
  HasKeys (boolean b) = ⊤
  HasKeys (number n) = ⊤
  HasKeys (text u) = ⊤
  HasKeys (array ts) = ElementsHaveKeys ts
  HasKeys (object fs) = FieldsHaveKeys fs

  pub ElementsHaveKeys : Elements → Type 0
  ElementsHaveKeys no_element = ⊤
  ElementsHaveKeys (element t ts) = HasKeys t × ElementsHaveKeys ts

  pub FieldsHaveKeys : Fields → Type 0
  FieldsHaveKeys no_field = ⊤
  FieldsHaveKeys (field (named u) t fs) = HasKeys t × FieldsHaveKeys fs
  FieldsHaveKeys (field bad t fs) = ⊥

-- a stop that no refusal names
abbrev IsUnnamed : Stop → Type 0
IsUnnamed s = (s ≡ whole) ⊎ (s ≡ no_number)

both_at : (s : List ℕ) (e : Stop) (b : Out) → IsUnnamed e → IsUnnamed b.stop → IsUnnamed (followed_by s e b).stop
both_at s e b (inl f) k = subst (λ x. IsUnnamed (followed_by s x b).stop) (sym f) k
both_at s e b (inr f) k = subst (λ x. IsUnnamed (followed_by s x b).stop) (sym f) (inr refl)

both : (a b : Out) → IsUnnamed a.stop → IsUnnamed b.stop → IsUnnamed (a then b).stop
both a b h k = both_at a.text a.stop b h k

number_at : (b : Bool) (s : List ℕ) → IsUnnamed (cond b (piece s) (stopped no_number)).stop
number_at true s = inl refl
number_at false s = inr refl

opens : (limit d bracket : ℕ) → d < limit → IsUnnamed (opened_by limit d bracket).stop
opens limit d bracket l = let h : nat_lt d limit ≡ true = grind (arith, nat_tests) in inl (ap (λ b. (cond b (piece (bracket ∷ [])) (stopped too_deep)).stop) h)

closes : (b : Bool) (d bracket : ℕ) → IsUnnamed (closed_by d b bracket).stop
closes true d bracket = inl refl
closes false d bracket = inl refl

mutual
  not_refused : (limit : ℕ) (t : Written) (d : ℕ) → HasKeys t → d + depth (marks t) ≤ limit → IsUnnamed (out limit t d).stop
  not_refused limit null d h l = inl refl
  not_refused limit (boolean b) d h l = inl refl
  not_refused limit (number n) d h l = number_at (is_writable n) (number_text n)
  not_refused limit (text u) d h l = inl refl
  not_refused limit (array ts) d h l = both (opened_by limit d 91) (elements_out limit ts d false) (opens limit d 91 (omega (arith, l))) (elements_not limit ts d false h (omega (arith, l)))
  not_refused limit (object fs) d h l = both (opened_by limit d 123) (fields_out limit fs d false) (opens limit d 123 (omega (arith, l))) (fields_not limit fs d false h (omega (arith, l)))

  elements_not : (limit : ℕ) (ts : Elements) (d : ℕ) (started : Bool) → ElementsHaveKeys ts → d + depths (element_marks ts) < limit → IsUnnamed (elements_out limit ts d started).stop
  elements_not limit no_element d started h l = closes started d 93
  elements_not limit (element t ts) d started h l =
      both (element_out (d + 1) (out limit t (d + 1))) (elements_out limit ts d true) (both (out limit t (d + 1)) (piece (44 ∷ [])) (not_refused limit t (d + 1) h.0 (omega (arith, l))) (inl refl)) (elements_not limit ts d true h.1 (omega (arith, l)))

  fields_not : (limit : ℕ) (fs : Fields) (d : ℕ) (started : Bool) → FieldsHaveKeys fs → d + member_depths (field_marks fs) < limit → IsUnnamed (fields_out limit fs d started).stop
  fields_not limit no_field d started h l = closes started d 125
  fields_not limit (field (named u) t fs) d started h l =
      both (value_part (out limit t (d + 1))) (fields_out limit fs d true) (both (out limit t (d + 1)) (piece (44 ∷ [])) (not_refused limit t (d + 1) h.0 (omega (arith, l))) (inl refl)) (fields_not limit fs d true h.1 (omega (arith, l)))
  fields_not limit (field bad t fs) d started h l = absurd h

unnamed_key : (s : Stop) → IsUnnamed s → s ≡ invalid_key → ⊥
unnamed_key s (inl e) h = let f : whole ≡ invalid_key = sym e ∙ h in absurd (cc)
unnamed_key s (inr e) h = let f : no_number ≡ invalid_key = sym e ∙ h in absurd (cc)

unnamed_depth : (s : Stop) → IsUnnamed s → s ≡ too_deep → ⊥
unnamed_depth s (inl e) h = let f : whole ≡ too_deep = sym e ∙ h in absurd (cc)
unnamed_depth s (inr e) h = let f : no_number ≡ too_deep = sym e ∙ h in absurd (cc)

memory_by : (o : Out) (k : FaultKind) → IsUnnamed o.stop → StopsAs o k → k ≡ code codes_of.OutOfMemory
memory_by o (code codes_of.OutOfMemory) w h = refl
memory_by o (code codes_of.InvalidKey) w h = absurd (unnamed_key o.stop w h)
memory_by o (code codes_of.TooDeep) w h = absurd (unnamed_depth o.stop w h)
memory_by o (code _) w h = absurd h
memory_by o failed_write w h = absurd h
memory_by o (custom _) w h = absurd h

-- a tree that isn't too deep, and whose keys have texts, is refused only if memory ran out
pub only_memory : (t : Written) (e : Error) → HasKeys t → depth (marks t) ≤ max_depth → RefusesToString (written_text t) e → IsOutOfMemory e
only_memory t e s l h = memory_by (written_text t) (kind_of e) (not_refused max_depth t 0 s (omega (arith, l))) h.stops

-- a document that was written of a value that reads back is read as its content
pub read_again : {V C : Type 0} (tree : V → Written) (convert : Tree → Option C) (content : V → C) (v : V) (x : List ℕ) (result : Result V Error) → ReadsBack tree convert content v → Doc max_depth x (marks (tree v)) → ReadsDocument content convert max_depth x result
    → MatchResult result (λ w. content w ≡ content v) IsOutOfMemory
read_again tree convert content v x result back document reads = reads (marks (tree v)) (content v) document back
