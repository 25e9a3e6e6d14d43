-- How deep a tree is nested whose output is whole, so that such an output is a document.
use Rattle.std.proofs.Common.{◌≡◌, ◌≤◌, ◌<◌, ◌⊎◌, ◌↔◌, inl, inr, ℕ, ◌+◌, List, [], ◌∷◌, Bool, true, false, cond, nat_lt, Result, Ok, Err, refl, sym, ap, ◌∙◌, subst, arith}
use Rattle.std.specs.Prelude.{IfOk, String, string_bytes}
use Rattle.std.specs.declared.alloc.Global.{Global}
use Rattle.json5_types.specs.declared.error.Error.{Error}
use Rattle.std.proofs.lemmas.Bool.Decides.{nat_tests}
use Rattle.std.specs.Str.{chars}
use Rattle.json5_grammar.specs.Language.Characters.{left_bracket, left_brace}
use Rattle.json5_grammar.proofs.CommonLemmas.{lt_from}
use Rattle.json5_grammar.specs.Language.Trees.{depth, depths, member_depths}
use Rattle.json5_grammar.specs.Language.Documents.{Doc}
use Rattle.json5_grammar.proofs.ScalarsWritten.{alone}
use Rattle.json5_write.specs.WrittenTrees.{Written, null, boolean, number, text, array, object, Elements, no_element, element, Fields, no_field, field, named, bad}
use Rattle.json5_write.specs.Out.{Out, Stop, whole, invalid_key, too_deep, piece, stopped, followed_by, ◌then◌, out, text_within, elements_out, fields_out, opened_by, closed_by, element_out, key_part, value_part}
use Rattle.json5_write.specs.WholeOutputs.{IsText}
use Rattle.json5_write.specs.EscapeFreeMarks.{marks, element_marks, field_marks, IsSpelled, AreSpelled, FieldsAreSpelled}
use Rattle.json5_write.proofs.WritableNumbers.{number_piece, number_whole}
use Rattle.json5_write.proofs.Unmarked.{parts}
use Rattle.json5_write.proofs.ReadBack.{whole_value}

-- ---- what is whole is spelled

mutual
  pub spelled : (limit : ℕ) (t : Written) (d : ℕ) → (out limit t d).stop ≡ whole → IsSpelled t
  spelled limit null d h = tt
  spelled limit (boolean b) d h = tt
  spelled limit (number n) d h = number_whole n h
  spelled limit (text u) d h = tt
  spelled limit (array ts) d h = elements_spelled limit ts d false (parts (opened_by limit d left_bracket) (elements_out limit ts d false) h).second
  spelled limit (object fs) d h = fields_spelled limit fs d false (parts (opened_by limit d left_brace) (fields_out limit fs d false) h).second

  elements_spelled : (limit : ℕ) (ts : Elements) (d : ℕ) (started : Bool) → (elements_out limit ts d started).stop ≡ whole → AreSpelled ts
  elements_spelled limit no_element d started h = tt
  elements_spelled limit (element t ts) d started h =
      let p = parts (element_out (d + 1) (out limit t (d + 1))) (elements_out limit ts d true) h in
      let q = parts (out limit t (d + 1)) (piece (44 ∷ [])) p.first in
      (spelled limit t (d + 1) q.first, elements_spelled limit ts d true p.second)

  fields_spelled : (limit : ℕ) (fs : Fields) (d : ℕ) (started : Bool) → (fields_out limit fs d started).stop ≡ whole → FieldsAreSpelled fs
  fields_spelled limit no_field d started h = tt
  fields_spelled limit (field (named u) t fs) d started h =
      let p = parts (key_part (d + 1) (named u)) (value_part (out limit t (d + 1)) then fields_out limit fs d true) h in
      let q = parts (value_part (out limit t (d + 1))) (fields_out limit fs d true) p.second in
      let r = parts (out limit t (d + 1)) (piece (44 ∷ [])) q.first in
      (spelled limit t (d + 1) r.first, fields_spelled limit fs d true q.second)
  fields_spelled limit (field bad t fs) d started h = absurd (let e : invalid_key ≡ whole = h in cc)

-- ---- it is nested so deep at most

opened_at : (b : Bool) (o : Out) → (cond b o (stopped too_deep)).stop ≡ whole → b ≡ true
opened_at true o h = refl
opened_at false o h = absurd (cc)

opened : (limit d bracket : ℕ) → (opened_by limit d bracket).stop ≡ whole → d < limit
opened limit d bracket h = lt_from d limit (opened_at (nat_lt d limit) (piece (bracket ∷ [])) h)

mutual
  pub fits : (limit : ℕ) (t : Written) (d : ℕ) → d ≤ limit → (out limit t d).stop ≡ whole → d + depth (marks t) ≤ limit
  fits limit null d l h = omega (arith, l)
  fits limit (boolean b) d l h = omega (arith, l)
  fits limit (number n) d l h = omega (arith, l)
  fits limit (text u) d l h = omega (arith, l)
  fits limit (array ts) d l h =
      let p = parts (opened_by limit d left_bracket) (elements_out limit ts d false) h in
      let k = elements_fit limit ts d false (opened limit d left_bracket p.first) p.second in
      omega (arith, k)
  fits limit (object fs) d l h =
      let p = parts (opened_by limit d left_brace) (fields_out limit fs d false) h in
      let k = fields_fit limit fs d false (opened limit d left_brace p.first) p.second in
      omega (arith, k)

  elements_fit : (limit : ℕ) (ts : Elements) (d : ℕ) (started : Bool) → d < limit → (elements_out limit ts d started).stop ≡ whole → d + depths (element_marks ts) < limit
  elements_fit limit no_element d started l h = omega (arith, l)
  elements_fit limit (element t ts) d started l h =
      let p = parts (element_out (d + 1) (out limit t (d + 1))) (elements_out limit ts d true) h in
      let q = parts (out limit t (d + 1)) (piece (44 ∷ [])) p.first in
      let a = fits limit t (d + 1) (omega (arith, l)) q.first in
      let b = elements_fit limit ts d true l p.second in
      omega (arith, a, b)

  fields_fit : (limit : ℕ) (fs : Fields) (d : ℕ) (started : Bool) → d < limit → (fields_out limit fs d started).stop ≡ whole → d + member_depths (field_marks fs) < limit
  fields_fit limit no_field d started l h = omega (arith, l)
  fields_fit limit (field (named u) t fs) d started l h =
      let p = parts (key_part (d + 1) (named u)) (value_part (out limit t (d + 1)) then fields_out limit fs d true) h in
      let q = parts (value_part (out limit t (d + 1))) (fields_out limit fs d true) p.second in
      let r = parts (out limit t (d + 1)) (piece (44 ∷ [])) q.first in
      let a = fits limit t (d + 1) (omega (arith, l)) r.first in
      let b = fields_fit limit fs d true l q.second in
      omega (arith, a, b)
  fields_fit limit (field bad t fs) d started l h = absurd (let e : invalid_key ≡ whole = h in cc)

-- no bracket is opened where so many are open already
no_bracket : (limit d bracket : ℕ) (rest : Out) → limit < d → (opened_by limit d bracket then rest).stop ≡ whole → ⊥
no_bracket limit d bracket rest l h = let k = opened limit d bracket (parts (opened_by limit d bracket) rest h).first in absurd (omega (arith, k, l))

flat : (limit : ℕ) (t : Written) (d : ℕ) → limit < d → (out limit t d).stop ≡ whole → depth (marks t) ≤ limit
flat limit null d l h = omega arith
flat limit (boolean b) d l h = omega arith
flat limit (number n) d l h = omega arith
flat limit (text u) d l h = omega arith
flat limit (array ts) d l h = absurd (no_bracket limit d left_bracket (elements_out limit ts d false) l h)
flat limit (object fs) d l h = absurd (no_bracket limit d left_brace (fields_out limit fs d false) l h)

-- ---- what is spelled is whole, or stops at a bracket

-- the output is whole, or stops at a bracket
abbrev IsDeepOnly : Stop → Type 0
IsDeepOnly s = (s ≡ whole) ⊎ (s ≡ too_deep)

both_at : (s : List ℕ) (e : Stop) (b : Out) → IsDeepOnly e → IsDeepOnly b.stop → IsDeepOnly (followed_by s e b).stop
both_at s e b (inl f) k = subst (λ x. IsDeepOnly (followed_by s x b).stop) (sym f) k
both_at s e b (inr f) k = subst (λ x. IsDeepOnly (followed_by s x b).stop) (sym f) (inr refl)

both : (a b : Out) → IsDeepOnly a.stop → IsDeepOnly b.stop → IsDeepOnly (a then b).stop
both a b h k = both_at a.text a.stop b h k

opening_at : (b : Bool) (o : Out) → o.stop ≡ whole → IsDeepOnly (cond b o (stopped too_deep)).stop
opening_at true o h = inl h
opening_at false o h = inr refl

closing_at : (b : Bool) (d bracket : ℕ) → IsDeepOnly (closed_by d b bracket).stop
closing_at true d bracket = inl refl
closing_at false d bracket = inl refl

mutual
  pub deep_only : (limit : ℕ) (t : Written) (d : ℕ) → IsSpelled t → IsDeepOnly (out limit t d).stop
  deep_only limit null d h = inl refl
  deep_only limit (boolean b) d h = inl refl
  deep_only limit (number n) d h = inl (ap (λ o. o.stop) (number_piece n h))
  deep_only limit (text u) d h = inl refl
  deep_only limit (array ts) d h = both (opened_by limit d left_bracket) (elements_out limit ts d false) (opening_at (nat_lt d limit) (piece (91 ∷ [])) refl) (elements_deep limit ts d false h)
  deep_only limit (object fs) d h = both (opened_by limit d left_brace) (fields_out limit fs d false) (opening_at (nat_lt d limit) (piece (123 ∷ [])) refl) (fields_deep limit fs d false h)

  elements_deep : (limit : ℕ) (ts : Elements) (d : ℕ) (started : Bool) → AreSpelled ts → IsDeepOnly (elements_out limit ts d started).stop
  elements_deep limit no_element d started h = closing_at started d 93
  elements_deep limit (element t ts) d started h =
      both (element_out (d + 1) (out limit t (d + 1))) (elements_out limit ts d true) (both (out limit t (d + 1)) (piece (44 ∷ [])) (deep_only limit t (d + 1) h.0) (inl refl)) (elements_deep limit ts d true h.1)

  fields_deep : (limit : ℕ) (fs : Fields) (d : ℕ) (started : Bool) → FieldsAreSpelled fs → IsDeepOnly (fields_out limit fs d started).stop
  fields_deep limit no_field d started h = closing_at started d 125
  fields_deep limit (field (named u) t fs) d started h =
      both (value_part (out limit t (d + 1))) (fields_out limit fs d true) (both (out limit t (d + 1)) (piece (44 ∷ [])) (deep_only limit t (d + 1) h.0) (inl refl)) (fields_deep limit fs d true h.1)
  fields_deep limit (field bad t fs) d started h = absurd h

-- ---- what is spelled and not too deep is whole

whole_at : (s : List ℕ) (e : Stop) (b : Out) → e ≡ whole → b.stop ≡ whole → (followed_by s e b).stop ≡ whole
whole_at s e b f k = subst (λ x. (followed_by s x b).stop ≡ whole) (sym f) k

joined : (a b : Out) → a.stop ≡ whole → b.stop ≡ whole → (a then b).stop ≡ whole
joined a b h k = whole_at a.text a.stop b h k

lt_true : (a b : ℕ) → a < b → nat_lt a b ≡ true
lt_true a b h = grind (arith, nat_tests)

opens : (limit d bracket : ℕ) → d < limit → (opened_by limit d bracket).stop ≡ whole
opens limit d bracket l = ap (λ b. (cond b (piece (bracket ∷ [])) (stopped too_deep)).stop) (lt_true d limit l)

closes : (b : Bool) (d bracket : ℕ) → (closed_by d b bracket).stop ≡ whole
closes true d bracket = refl
closes false d bracket = refl

mutual
  pub whole_from : (limit : ℕ) (t : Written) (d : ℕ) → IsSpelled t → d + depth (marks t) ≤ limit → (out limit t d).stop ≡ whole
  whole_from limit null d h l = refl
  whole_from limit (boolean b) d h l = refl
  whole_from limit (number n) d h l = ap (λ o. o.stop) (number_piece n h)
  whole_from limit (text u) d h l = refl
  whole_from limit (array ts) d h l = joined (opened_by limit d left_bracket) (elements_out limit ts d false) (opens limit d left_bracket (omega (arith, l))) (elements_whole limit ts d false h (omega (arith, l)))
  whole_from limit (object fs) d h l = joined (opened_by limit d left_brace) (fields_out limit fs d false) (opens limit d left_brace (omega (arith, l))) (fields_whole limit fs d false h (omega (arith, l)))

  elements_whole : (limit : ℕ) (ts : Elements) (d : ℕ) (started : Bool) → AreSpelled ts → d + depths (element_marks ts) < limit → (elements_out limit ts d started).stop ≡ whole
  elements_whole limit no_element d started h l = closes started d 93
  elements_whole limit (element t ts) d started h l =
      joined (element_out (d + 1) (out limit t (d + 1))) (elements_out limit ts d true) (joined (out limit t (d + 1)) (piece (44 ∷ [])) (whole_from limit t (d + 1) h.0 (omega (arith, l))) refl) (elements_whole limit ts d true h.1 (omega (arith, l)))

  fields_whole : (limit : ℕ) (fs : Fields) (d : ℕ) (started : Bool) → FieldsAreSpelled fs → d + member_depths (field_marks fs) < limit → (fields_out limit fs d started).stop ≡ whole
  fields_whole limit no_field d started h l = closes started d 125
  fields_whole limit (field (named u) t fs) d started h l =
      joined (value_part (out limit t (d + 1))) (fields_out limit fs d true) (joined (out limit t (d + 1)) (piece (44 ∷ [])) (whole_from limit t (d + 1) h.0 (omega (arith, l))) refl) (fields_whole limit fs d true h.1 (omega (arith, l)))
  fields_whole limit (field bad t fs) d started h l = absurd h

-- ---- as the laws say it

pub whole_exactly : (limit d : ℕ) (t : Written) → d ≤ limit → (out limit t d).stop ≡ whole ↔ (IsSpelled t × (d + depth (marks t) ≤ limit))
whole_exactly limit d t l = (λ h. (spelled limit t d h, fits limit t d l h), λ h. whole_from limit t d h.0 h.1)

within_or_past : (n limit : ℕ) → (n ≤ limit) ⊎ (limit < n)
within_or_past n limit = grind arith

not_both : (s : Stop) → s ≡ whole → s ≡ too_deep → ⊥
not_both s h k = let e : whole ≡ too_deep = sym h ∙ k in absurd (cc)

past : (limit d : ℕ) (t : Written) → IsSpelled t → (out limit t d).stop ≡ too_deep → (d + depth (marks t) ≤ limit) ⊎ (limit < d + depth (marks t)) → limit < d + depth (marks t)
past limit d t h k (inl l) = absurd (not_both (out limit t d).stop (whole_from limit t d h l) k)
past limit d t h k (inr l) = l

stops_deep : (limit d : ℕ) (t : Written) → d ≤ limit → limit < d + depth (marks t) → IsDeepOnly (out limit t d).stop → (out limit t d).stop ≡ too_deep
stops_deep limit d t l k (inl h) = let n = fits limit t d l h in absurd (omega (arith, k, n))
stops_deep limit d t l k (inr h) = h

pub too_deep_exactly : (limit d : ℕ) (t : Written) → d ≤ limit → IsSpelled t → (out limit t d).stop ≡ too_deep ↔ limit < d + depth (marks t)
too_deep_exactly limit d t l h = (λ k. past limit d t h k (within_or_past (d + depth (marks t)) limit), λ k. stops_deep limit d t l k (deep_only limit t d h))

-- ---- a whole output is a document

shallow : (limit d : ℕ) (t : Written) → (out limit t d).stop ≡ whole → (d ≤ limit) ⊎ (limit < d) → depth (marks t) ≤ limit
shallow limit d t h (inl l) = let k = fits limit t d l h in omega (arith, k)
shallow limit d t h (inr l) = flat limit t d l h

pub whole_document : (limit d : ℕ) (t : Written) (s : List ℕ) → out limit t d ≡ piece s → Doc limit s (marks t)
whole_document limit d t s e = alone limit s (marks t) (whole_value limit d t s e) (shallow limit d t (ap (λ o. o.stop) e) (within_or_past d limit))

pub piece_whole : (o : Out) → o.stop ≡ whole → o ≡ piece o.text
piece_whole o h = ap (λ s. record { text = o.text; stop = s }) h

-- the output of a whole tree, by its bytes
pub text_document : (limit : ℕ) (t : Written) (bytes : List ℕ) → IsText (text_within limit t) bytes → Doc limit (chars bytes) (marks t)
text_document limit t bytes w = subst (λ x. Doc limit x (marks t)) (sym w.characters) (whole_document limit 0 t (text_within limit t).text (piece_whole (text_within limit t) w.stop))

pub text_documents : (limit : ℕ) (t : Written) (result : Result (String Global) Error) → IfOk result (λ s. IsText (text_within limit t) (string_bytes s)) → IfOk result (λ s. Doc limit (chars (string_bytes s)) (marks t))
text_documents limit t (Ok s) w = text_document limit t (string_bytes s) w
text_documents limit t (Err e) w = tt
