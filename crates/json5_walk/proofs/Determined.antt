-- What a token that was taken leaves of what is due: a text goes on in one way.
use Rattle.std.proofs.Common.{◌≡◌, ◌||◌, ◌⊎◌, ℕ, Bool, true, false, List, [], ◌∷◌, ◌++◌, refl, ap, sym, ◌∙◌, arith, subst, inl, inr}
use Rattle.std.specs.Prelude.{◌==◌}
use Rattle.std.proofs.lemmas.Bool.{eqb-false}
use Rattle.json5_grammar.specs.Language.Blanks.{Blanks, Gap, is_solid, Solid}
use Rattle.json5_grammar.specs.Language.Numbers.{Number}
use Rattle.json5_grammar.specs.Language.Strings.{is_quote, quoted}
use Rattle.json5_grammar.specs.Language.Trees.{Tree, null, boolean, number, text, array, object, Trees, Members, no_more, more, no_member, member}
use Rattle.json5_grammar.specs.Language.Values.{Val, is_null, is_true, is_false, is_number, is_text, Reads}
use Rattle.json5_grammar.specs.Faults.Tokens.{is_sign, begins_number}
use Rattle.json5_grammar.specs.Model.Collections.{IsSign, IsEnd, ReadsKey, Tail, MembersTail}
use Rattle.json5_grammar.proofs.CommonLemmas.{first_same}
use Rattle.json5_grammar.proofs.BlanksRead.{begins_solid}
use Rattle.json5_grammar.proofs.BlanksSound.{one_gap}
use Rattle.json5_grammar.proofs.ArraysRead.{comma_solid, bracket_solid, opening_solid, one_sign, sign_found, reads_found, phrase_found, array_front}
use Rattle.json5_grammar.proofs.ArraysPartlyRead.{same_sign, no_comma_end, one_opening, one_close, element_or_close}
use Rattle.json5_grammar.proofs.ObjectsRead.{brace_solid, opening_brace_solid, one_opening_brace, key_or_brace, one_brace, object_front}
use Rattle.json5_grammar.proofs.ValueHeads.{key_head, key_solid, number_head}

pub here : (c : ℕ) (r : List ℕ) → IsSign c (c ∷ r) r
here c r = record { front = []; split = refl; blank = Blanks.empty }

-- ---- after a gap

module _ (g y : List ℕ) (b : Gap g y) (s : Solid y) where
  pub sign_left : (c : ℕ) (r : List ℕ) → is_solid c ≡ true → IsSign c (g ++ y) r → IsSign c y r
  sign_left c r h a = subst (λ z. IsSign c z r) (sym (sign_found c (g ++ y) g y r h refl b s a)) (here c r)

  pub end_left : (c : ℕ) (due : Bool) (r : List ℕ) → is_solid c ≡ true → IsEnd c due (g ++ y) r → IsEnd c due y r
  end_left c false r h a = sign_left c r h a
  end_left c true r h (inl a) = inl (sign_left c r h a)
  end_left c true r h (inr (z, a, d)) = inr (z, sign_left 44 z comma_solid a, d)

  pub value_left_over : (r : List ℕ) (t : Tree) → Reads (g ++ y) t r → Reads y t r
  value_left_over r t p = reads_found (g ++ y) g y r t refl b s p

  pub tail_left : (ts : Trees) (due : Bool) (r : List ℕ) → Tail ts due (g ++ y) r → Tail ts due y r
  tail_left no_more due r c = end_left 93 due r bracket_solid c
  tail_left (more t ts) false r (z, p, tl) = (z, value_left_over z t p, tl)
  tail_left (more t ts) true r (z, (q, a, p), tl) = (z, (q, sign_left 44 q comma_solid a, p), tl)

  pub key_left : (u r : List ℕ) (e : Bool) → ReadsKey (g ++ y) u e r → ReadsKey y u e r
  key_left u r e k =
      let h = one_gap k.front (k.spelling ++ r) g y (Gap.blanks k.blank) (key_solid r (key_head k.key)) b s (sym k.split) in
      record { front = []; spelling = k.spelling; split = h.1; blank = Blanks.empty; key = k.key }

  pub pairs_left : (ps : Members) (due : Bool) (r : List ℕ) → MembersTail ps due (g ++ y) r → MembersTail ps due y r
  pairs_left no_member due r c = end_left 125 due r brace_solid c
  pairs_left (member u e t ps) false r (k, z, key, v, tl) = (k, z, key_left u k e key, v, tl)
  pairs_left (member u e t ps) true r (k, z, (q, a, key), v, tl) = (k, z, (q, sign_left 44 q comma_solid a, key), v, tl)

-- ---- after a comma

pub tail_after_comma : (ts : Trees) (x y r : List ℕ) → IsSign 44 x y → Tail ts true x r → Tail ts false y r
tail_after_comma no_more x y r a (inl c) = absurd (no_comma_end 93 x y r bracket_solid refl a c)
tail_after_comma no_more x y r a (inr (z, d, c)) = subst (λ q. IsSign 93 q r) (same_sign 44 x z y comma_solid d a) c
tail_after_comma (more t ts) x y r a (k, (z, d, p), tl) = (k, subst (λ q. Reads q t k) (same_sign 44 x z y comma_solid d a) p, tl)

pub pairs_after_comma : (ps : Members) (x y r : List ℕ) → IsSign 44 x y → MembersTail ps true x r → MembersTail ps false y r
pairs_after_comma no_member x y r a (inl c) = absurd (no_comma_end 125 x y r brace_solid refl a c)
pairs_after_comma no_member x y r a (inr (z, d, c)) = subst (λ q. IsSign 125 q r) (same_sign 44 x z y comma_solid d a) c
pairs_after_comma (member u e t ps) x y r a (k, q, (z, d, p), v, tl) = (k, q, subst (λ m. ReadsKey m u e k) (same_sign 44 x z y comma_solid d a) p, v, tl)

-- ---- at a closing bracket

pub none_left : (ts : Trees) (due : Bool) (x y r : List ℕ) → IsSign 93 x y → Tail ts due x r → (ts ≡ no_more) × (r ≡ y)
none_left no_more false x y r a c = (refl, same_sign 93 x r y bracket_solid c a)
none_left no_more true x y r a c = (refl, one_close true x r y c (inl a))
none_left (more t ts) false x y r a (z, p, tl) = absurd (element_or_close false x z y t p a)
none_left (more t ts) true x y r a (z, p, tl) = absurd (element_or_close true x z y t p (inl a))

pub no_member_left : (ps : Members) (due : Bool) (x y r : List ℕ) → IsSign 125 x y → MembersTail ps due x r → (ps ≡ no_member) × (r ≡ y)
no_member_left no_member false x y r a c = (refl, same_sign 125 x r y brace_solid c a)
no_member_left no_member true x y r a c = (refl, one_brace true x r y c (inl a))
no_member_left (member u e t ps) false x y r a (k, z, key, v, tl) = absurd (key_or_brace false x k y u e key a)
no_member_left (member u e t ps) true x y r a (k, z, key, v, tl) = absurd (key_or_brace true x k y u e key (inl a))

-- ---- at an opening bracket

-- the phrase begins with the sign
sign_first : (c : ℕ) (x y r : List ℕ) (t : Tree) → is_solid c ≡ true → IsSign c x y → (p : Reads x t r) → c ∷ y ≡ p.phrase ++ r
sign_first c x y r t h a p = phrase_found x a.front (c ∷ y) r t a.split (Gap.blanks a.blank) (begins_solid c y h) p

number_begins_so : (c : ℕ) (y s r : List ℕ) (n : Number) → Val s (number n) → c ∷ y ≡ s ++ r → (is_sign c || begins_number c) ≡ true
number_begins_so c y s r n (is_number k) e =
    let h = number_head k in
    let same : c ≡ h.0 = first_same c h.0 y (h.1 ++ r) (e ∙ ap (λ z. z ++ r) h.2) in
    subst (λ d. (is_sign d || begins_number d) ≡ true) (sym same) h.3

text_begins_so : (c : ℕ) (y s r u : List ℕ) (b : Bool) → Val s (text u b) → c ∷ y ≡ s ++ r → is_quote c ≡ true
text_begins_so c y s r u b (is_text (quoted {q = q} {s = m} h i)) e =
    let same : c ≡ q = first_same c q y ((m ++ q ∷ []) ++ r) e in
    subst (λ d. is_quote d ≡ true) (sym same) h

null_begins_so : (c : ℕ) (y s r : List ℕ) → Val s null → c ∷ y ≡ s ++ r → c ≡ 110
null_begins_so c y s r is_null e = first_same c 110 y (117 ∷ 108 ∷ 108 ∷ r) e

boolean_begins_so : (c : ℕ) (y s r : List ℕ) (b : Bool) → Val s (boolean b) → c ∷ y ≡ s ++ r → (c ≡ 116) ⊎ (c ≡ 102)
boolean_begins_so c y s r b is_true e = inl (first_same c 116 y (114 ∷ 117 ∷ 101 ∷ r) e)
boolean_begins_so c y s r b is_false e = inr (first_same c 102 y (97 ∷ 108 ∷ 115 ∷ 101 ∷ r) e)

-- an opening bracket
abbrev Opening : ℕ → Type 0
Opening c = (c ≡ 91) ⊎ (c ≡ 123)

no_null : (c : ℕ) → Opening c → c ≡ 110 → ⊥
no_null c (inl a) e = omega (arith, a, e)
no_null c (inr a) e = omega (arith, a, e)

no_boolean : (c : ℕ) → Opening c → (c ≡ 116) ⊎ (c ≡ 102) → ⊥
no_boolean c (inl a) (inl e) = omega (arith, a, e)
no_boolean c (inr a) (inl e) = omega (arith, a, e)
no_boolean c (inl a) (inr e) = omega (arith, a, e)
no_boolean c (inr a) (inr e) = omega (arith, a, e)

no_number : (c : ℕ) → (is_sign c || begins_number c) ≡ false → (is_sign c || begins_number c) ≡ true → ⊥
no_number c n e = let k : false ≡ true = sym n ∙ e in cc

no_text : (c : ℕ) → is_quote c ≡ false → is_quote c ≡ true → ⊥
no_text c n e = let k : false ≡ true = sym n ∙ e in cc

other_sign : (c d : ℕ) → (c == d) ≡ false → c ≡ d → ⊥
other_sign c d n e = eqb-false c d n e

-- a bracket begins a collection of its kind
pub array_opened_left : (x y r : List ℕ) (t : Tree) → IsSign 91 x y → Reads x t r → (us : Trees) × (t ≡ array us) × Tail us false y r
array_opened_left x y r null a p = absurd (no_null 91 (inl refl) (null_begins_so 91 y p.phrase r p.value (sign_first 91 x y r null opening_solid a p)))
array_opened_left x y r (boolean b) a p = absurd (no_boolean 91 (inl refl) (boolean_begins_so 91 y p.phrase r b p.value (sign_first 91 x y r (boolean b) opening_solid a p)))
array_opened_left x y r (number n) a p = absurd (no_number 91 refl (number_begins_so 91 y p.phrase r n p.value (sign_first 91 x y r (number n) opening_solid a p)))
array_opened_left x y r (text u b) a p = absurd (no_text 91 refl (text_begins_so 91 y p.phrase r u b p.value (sign_first 91 x y r (text u b) opening_solid a p)))
array_opened_left x y r (array us) a p = let (z, o, tl) = array_front x r us p in (us, refl, subst (λ q. Tail us false q r) (one_opening x z y o a) tl)
array_opened_left x y r (object ps) a p = let (z, o, tl) = object_front x r ps p in absurd (other_sign 123 91 refl (one_sign 123 91 x z y opening_brace_solid opening_solid o a).0)

pub object_opened_left : (x y r : List ℕ) (t : Tree) → IsSign 123 x y → Reads x t r → (qs : Members) × (t ≡ object qs) × MembersTail qs false y r
object_opened_left x y r null a p = absurd (no_null 123 (inr refl) (null_begins_so 123 y p.phrase r p.value (sign_first 123 x y r null opening_brace_solid a p)))
object_opened_left x y r (boolean b) a p = absurd (no_boolean 123 (inr refl) (boolean_begins_so 123 y p.phrase r b p.value (sign_first 123 x y r (boolean b) opening_brace_solid a p)))
object_opened_left x y r (number n) a p = absurd (no_number 123 refl (number_begins_so 123 y p.phrase r n p.value (sign_first 123 x y r (number n) opening_brace_solid a p)))
object_opened_left x y r (text u b) a p = absurd (no_text 123 refl (text_begins_so 123 y p.phrase r u b p.value (sign_first 123 x y r (text u b) opening_brace_solid a p)))
object_opened_left x y r (object qs) a p = let (z, o, tl) = object_front x r qs p in (qs, refl, subst (λ q. MembersTail qs false q r) (one_opening_brace x z y o a) tl)
object_opened_left x y r (array ts) a p = let (z, o, tl) = array_front x r ts p in absurd (other_sign 91 123 refl (one_sign 91 123 x z y opening_solid opening_brace_solid o a).0)
