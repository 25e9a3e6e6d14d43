-- What each step of a pen does to what is known of it.
use Rattle.std.proofs.Common.{◌≡◌, ℕ, ◌+◌, ◌-◌, List, [], ◌∷◌, ◌++◌, Bool, true, false, length, refl, sym, ap, ◌∙◌, subst, arith, Option, Some, None, is_some, ◌==◌}
use Rattle.std.specs.Prelude.{option_to_list}
use Rattle.json5_grammar.specs.Language.Characters.{colon_sign, space}
use Rattle.json5_grammar.specs.Faults.Fronts.{opening, closing}
use Rattle.json5_write.specs.Brackets.{bracket_of}
use Rattle.json5_write.specs.Commas.{comma_before, closed_after}
use Rattle.json5_write.specs.Out.{Out, piece, ◌then◌, line, key_out, opened_by, out, text_within}
use Rattle.json5_write.specs.WrittenTrees.{WrittenKey, Written}
use Rattle.json5_write.specs.Writes.{SerializerState, Wrote, fresh_within, at_depth, after_closing}
use Rattle.json5_write.specs.declared.brackets.Brackets.{Brackets}
use Rattle.json5_write.specs.declared.brackets.Brackets.TheVariants as brackets
use Rattle.json5_write.proofs.OutputsJoined.{Wrote-then, Wrote-at, then_assoc}
use Rattle.json5_write.proofs.TextsWhole.{whole_text}
use Rattle.json5_write.proofs.WrittenDepths.{text_document}
use Rattle.json5_serde_write.specs.Pens.{kinds_onto, kinds_in, is_innermost, Completes, Begins, IsPen}
use Rattle.json5_serde_write.specs.WrittenTexts.{IsWrittenWithin}
use Rattle.json5_serde_write.proofs.Completed.{then_nothing, nothing_then, one_more, value_completes, line_completes, key_completes, opening_completes, closing_completes}

-- ---- the open brackets

kinds_push : (o bs : List Brackets) (b : Brackets) → kinds_onto o (bs ++ b ∷ []) ≡ b ∷ kinds_onto o bs
kinds_push o [] b = refl
kinds_push o (a ∷ bs) b = kinds_push (a ∷ o) bs b

append_none : (bs : List Brackets) → bs ++ [] ≡ bs
append_none [] = refl
append_none (b ∷ bs) = ap (λ z. b ∷ z) (append_none bs)

-- the innermost bracket was put to the outer ones
pub kinds_kept : (i : Option Brackets) (b : Brackets) (bs cs : List Brackets) → i ≡ Some b → cs ≡ bs ++ b ∷ [] → kinds_onto [] cs ≡ kinds_in i bs
kinds_kept i b bs cs e f = ap (kinds_onto []) f ∙ kinds_push [] bs b ∙ sym (ap (λ z. kinds_in z bs) e)

-- the innermost of the outer brackets was taken from them
kinds_left : (i : Option Brackets) (bs less : List Brackets) → bs ≡ less ++ option_to_list i → kinds_onto [] bs ≡ kinds_in i less
kinds_left None bs less e = ap (kinds_onto []) (e ∙ append_none less)
kinds_left (Some b) bs less e = ap (kinds_onto []) e ∙ kinds_push [] less b

innermost : (i : Option Brackets) (b : Brackets) (bs : List Brackets) → true ≡ is_innermost i b → kinds_in i bs ≡ b ∷ kinds_onto [] bs
innermost (Some brackets.Square) brackets.Square bs e = refl
innermost (Some brackets.Curly) brackets.Curly bs e = refl
innermost (Some brackets.Square) brackets.Curly bs e = absurd (cc)
innermost (Some brackets.Curly) brackets.Square bs e = absurd (cc)
innermost None brackets.Square bs e = absurd (cc)
innermost None brackets.Curly bs e = absurd (cc)

-- ---- parts

module _ {limit : ℕ} {s : SerializerState} {o : List Brackets} {v c : Bool} where
  -- a part was written, after which what completes the text then does
  grows : {p : List Brackets} {w d : Bool} (n : SerializerState) (a : Out) → Begins limit s o v c → n.depth ≡ length p → Wrote a (at_depth 0 s) (at_depth 0 n)
      → ((rest : Out) → Completes limit w d p rest → Completes limit v c o (a then rest)) → Begins limit n p w d
  grows n a f deep put step = record {
    depth = deep;
    front = f.front then a;
    wrote = Wrote-then f.front a (fresh_within limit (Some [])) (at_depth 0 s) (at_depth 0 n) f.wrote put;
    goes = λ rest h. let (t, e) = f.goes (a then rest) (step rest h) in (t, e ∙ sym (then_assoc f.front a rest));
  }

  -- at its limit, and within its brackets
  known : (P : ℕ → ℕ → Type 0) → Begins limit s o v c → P s.limit s.depth → P limit (length o)
  known P f p = subst (λ l. P l (length o)) f.wrote.limit (subst (P s.limit) f.depth p)

pub started : (limit : ℕ) (s : SerializerState) → s ≡ fresh_within limit (Some []) → IsPen limit s [] true false
started limit s e = subst (λ z. IsPen limit z [] true false) (sym e) (record {
  live = λ h. record {
    depth = refl;
    front = piece [];
    wrote = record { was = refl; stop = refl; chars = refl; bytes = refl; depth = refl; limit = refl; failed = refl };
    goes = λ rest (t, after, is, none). (t, sym (nothing_then rest ∙ (is ∙ (ap (λ z. out limit t 0 then z) none ∙ then_nothing (out limit t 0)))));
  };
})

module _ {limit : ℕ} {s : SerializerState} {o : List Brackets} {c : Bool} where
  -- a line was begun in a list
  line_put : (n : SerializerState) → IsPen limit s (brackets.Square ∷ o) false c → Wrote (comma_before c (piece (line s.depth))) s n → IsPen limit n (brackets.Square ∷ o) true c
  line_put n k w = record {
    live = λ h.
        let f = k.live w.was in
        let put = subst (λ d. Wrote (comma_before c (piece (line d))) s n) (f.depth ∙ one_more brackets.Square o) w in
        grows n (comma_before c (piece (line (length o + 1)))) f (w.depth ∙ f.depth) (Wrote-at 0 (comma_before c (piece (line (length o + 1)))) s n put) (line_completes limit c c o);
  }

  -- a key and its colon were written
  key_put : (u : WrittenKey) (a b n : SerializerState) → IsPen limit s (brackets.Curly ∷ o) false c
      → Wrote (comma_before c (piece (line s.depth))) s a → Wrote (key_out u) a b → Wrote (piece (colon_sign ∷ space ∷ [])) b n → IsPen limit n (brackets.Curly ∷ o) true c
  key_put u a b n k w x y = record {
    live = λ h.
        let f = k.live w.was in
        let l = comma_before c (piece (line (length o + 1))) in
        let p = piece (colon_sign ∷ space ∷ []) in
        let put = subst (λ d. Wrote (comma_before c (piece (line d))) s a) (f.depth ∙ one_more brackets.Curly o) w in
        let all = Wrote-then l (key_out u then p) s a n put (Wrote-then (key_out u) p a b n x y) in
        grows n (l then (key_out u then p)) f (all.depth ∙ f.depth) (Wrote-at 0 (l then (key_out u then p)) s n all) (key_completes limit c c o u);
  }

  -- a value was written
  value_put : (t : Written) (n : SerializerState) → IsPen limit s o true c → Wrote (out s.limit t s.depth) s n → IsPen limit n o false true
  value_put t n k w = record {
    live = λ h.
        let f = k.live w.was in
        let put = known (λ l d. Wrote (out l t d) s n) f w in
        grows n (out limit t (length o)) f (w.depth ∙ f.depth) (Wrote-at 0 (out limit t (length o)) s n put) (value_completes limit c o t);
  }

  -- a bracket was opened
  bracket_put : (b : Brackets) (n : SerializerState) → IsPen limit s o true c → Wrote (opened_by s.limit s.depth (opening (bracket_of b))) s (at_depth s.depth n) → n.depth ≡ s.depth + 1 → IsPen limit n (b ∷ o) false false
  bracket_put b n k w deeper = record {
    live = λ h.
        let f = k.live w.was in
        let a = opened_by limit (length o) (opening (bracket_of b)) in
        let put = known (λ l d. Wrote (opened_by l d (opening (bracket_of b))) s (at_depth s.depth n)) f w in
        grows n a f (deeper ∙ (ap (λ d. d + 1) f.depth ∙ sym (one_more b o))) (Wrote-at 0 a s (at_depth s.depth n) put) (opening_completes limit c b o);
  }

  -- the innermost bracket was closed
  closing_put : (b : Brackets) (n : SerializerState) → IsPen limit s (b ∷ o) false c → Wrote (closed_after c (s.depth - 1) (closing (bracket_of b))) (after_closing s) n → IsPen limit n o false true
  closing_put b n k w = record {
    live = λ h.
        let f = k.live w.was in
        let less : s.depth - 1 ≡ length o = let e = f.depth in let g = one_more b o in omega (arith, e, g) in
        let a = closed_after c (length o) (closing (bracket_of b)) in
        let put = subst (λ d. Wrote (closed_after c d (closing (bracket_of b))) (after_closing s) n) less w in
        grows n a f (w.depth ∙ less) (Wrote-at 0 a (after_closing s) n put) (closing_completes limit c b o);
  }

-- ---- the calls

module _ {limit : ℕ} {s : SerializerState} {v c : Bool} where
  given : {o p : List Brackets} (w : Bool) → o ≡ p → v ≡ w → IsPen limit s o v c → IsPen limit s p w c
  given {o = o} w e f k = subst (λ z. IsPen limit s z w c) e (subst (λ z. IsPen limit s o z c) f k)

  pub line_begun : (i : Option Brackets) (bs : List Brackets) (n : SerializerState) → true ≡ is_innermost i brackets.Square → v ≡ false → IsPen limit s (kinds_in i bs) v c
      → Wrote (comma_before c (piece (line s.depth))) s n → IsPen limit n (kinds_in i bs) true c
  line_begun i bs n e f k w = let is = innermost i brackets.Square bs e in subst (λ z. IsPen limit n z true c) (sym is) (line_put n (given false is f k) w)

  pub key_written : (i : Option Brackets) (bs : List Brackets) (u : WrittenKey) (a b n : SerializerState) → true ≡ is_innermost i brackets.Curly → v ≡ false → IsPen limit s (kinds_in i bs) v c
      → Wrote (comma_before c (piece (line s.depth))) s a → Wrote (key_out u) a b → Wrote (piece (colon_sign ∷ space ∷ [])) b n → IsPen limit n (kinds_in i bs) true c
  key_written i bs u a b n e f k w x y = let is = innermost i brackets.Curly bs e in subst (λ z. IsPen limit n z true c) (sym is) (key_put u a b n (given false is f k) w x y)

  pub value_written : {o : List Brackets} (t : Written) (n : SerializerState) → v ≡ true → IsPen limit s o v c → Wrote (out s.limit t s.depth) s n → IsPen limit n o false true
  value_written t n f k w = value_put t n (given true refl f k) w

  pub opened : (i : Option Brackets) (b : Brackets) (bs cs : List Brackets) (n : SerializerState) → v ≡ true → kinds_onto [] cs ≡ kinds_in i bs → IsPen limit s (kinds_in i bs) v c
      → Wrote (opened_by s.limit s.depth (opening (bracket_of b))) s (at_depth s.depth n) → n.depth ≡ s.depth + 1 → IsPen limit n (kinds_in (Some b) cs) false false
  opened i b bs cs n f e k w deeper = subst (λ z. IsPen limit n (b ∷ z) false false) (sym e) (bracket_put b n (given true refl f k) w deeper)

  pub closed : (i j : Option Brackets) (b : Brackets) (bs less : List Brackets) (n : SerializerState) → v ≡ false → true ≡ is_innermost i b → bs ≡ less ++ option_to_list j → IsPen limit s (kinds_in i bs) v c
      → Wrote (closed_after c (s.depth - 1) (closing (bracket_of b))) (after_closing s) n → IsPen limit n (kinds_in j less) v true
  closed i j b bs less n f e g k w =
      subst (λ z. IsPen limit n (kinds_in j less) z true) (sym f)
      (subst (λ z. IsPen limit n z false true) (kinds_left j bs less g) (closing_put b n (given false (innermost i b bs e) f k) w))

-- ---- the whole text

none_here : (i : Option Brackets) → false ≡ is_some i → i ≡ None
none_here None e = refl
none_here (Some b) e = absurd (cc)

empty_here : (bs : List Brackets) (n : ℕ) → n ≡ length bs → true ≡ (n == 0) → bs ≡ []
empty_here [] n e f = refl
empty_here (b ∷ bs) n e f = let none : n ≡ 0 = grind (arith, f) in absurd (omega (arith, e, none))

pub none_open : {limit : ℕ} {s : SerializerState} {v c : Bool} (i : Option Brackets) (bs : List Brackets) (n : ℕ) → false ≡ is_some i → n ≡ length bs → true ≡ (n == 0) → v ≡ false → IsPen limit s (kinds_in i bs) v c → IsPen limit s [] false c
none_open i bs n e f g h k = given false (ap (λ z. kinds_in z bs) (none_here i e) ∙ ap (kinds_in None) (empty_here bs n f g)) h k

ended : {limit : ℕ} {s : SerializerState} {c : Bool} → IsPen limit s [] false c → s.failed ≡ false → (t : Written) × Wrote (text_within limit t) (fresh_within limit (Some [])) (at_depth 0 s)
ended {limit = limit} {s = s} k live =
    let f = k.live live in
    let (t, e) = f.goes (piece []) refl in
    (t, subst (λ a. Wrote a (fresh_within limit (Some [])) (at_depth 0 s)) (sym (e ∙ then_nothing f.front)) f.wrote)

pub text_whole : {limit : ℕ} {s : SerializerState} {c : Bool} (items bytes : List ℕ) → IsPen limit s [] false c → s.failed ≡ false → Some items ≡ s.known → bytes ≡ items → IsWrittenWithin limit bytes
text_whole {limit = limit} {s = s} items bytes k live held same =
    let (t, w) = ended k live in
    let text = whole_text (text_within limit t) (fresh_within limit (Some [])) (at_depth 0 s) items bytes w refl held same in
    record { tree = t; text = text; document = text_document limit t bytes text }
