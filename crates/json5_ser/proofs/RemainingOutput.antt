-- What of a tree remains to be written in a collection, step by step.
pub use Rattle.json5_ser.specs.RemainingOutput.{Rest, elements, fields, value, is_of_list, is_value, rest_out, Remains}
pub use Rattle.json5_write.proofs.OutputsJoined.{Wrote-at, RefusesBy-at, Refuses-at, Writes-at, then_assoc}
use Rattle.std.proofs.Common.{◌≡◌, ℕ, ◌+◌, ◌-◌, [], ◌∷◌, Bool, true, false, Result, Ok, Err, refl, sym, ap, ◌∙◌, subst, arith}
use Rattle.std.specs.Prelude.{⊤}
use Rattle.std.specs.Result.{IsErrAnd}
use Rattle.std.specs.Borrow.{GName, MutBor}
use Rattle.json5_types.specs.declared.error.Error.{Error}
use Rattle.json5_grammar.specs.Language.Characters.{comma_sign, right_bracket, right_brace}
use Rattle.json5_write.specs.WrittenTrees.{Written, Elements, Fields}
use Rattle.json5_write.specs.Out.{Out, piece, ◌then◌, closed_by, out, elements_out, fields_out, value_part}
use Rattle.json5_write.specs.Writes.{SerializerState, Wrote, Refusal, by_key, by_depth, by_writer, by_refusal, by_none, refusal_of, RefusesBy, RefusesWrite, Writes, WritesTree, at_depth}
use Rattle.json5_types.specs.Errors.{kind_of}
use Rattle.json5_grammar.specs.Faults.Fronts.{closing}
use Rattle.json5_write.specs.Brackets.{bracket_of}
use Rattle.json5_ser.specs.Brackets.{is_square}
use Rattle.json5_ser.specs.WrittenCollections.{within_variant, inner, serializer_of, reference_of, state_of, is_list, key_pending, has_member, in_variant, Opened, Steps}
use Rattle.json5_write.specs.declared.brackets.Brackets.{Brackets}
use Rattle.json5_write.specs.declared.brackets.Brackets.TheVariants as brackets
use Rattle.json5_ser.specs.declared.collection.SerializeCollection.{SerializeCollection}
use Rattle.json5_write.proofs.OutputsJoined.{Refuses-before, Writes-handed, Reaches, Reaches-refused, Reaches-first, Reaches-next, Reaches-last}

-- what closes a collection is refused, in a variant or not
pub end_refused : (v : Bool) (d e : ℕ) (w : Out) (o n : SerializerState) (x : Error) → RefusesWrite w (at_depth e o) x n → RefusesWrite (within_variant v d w) (at_depth d o) x n
end_refused true d e w o n x p = Refuses-before w (piece (comma_sign ∷ []) then closed_by d true right_brace) (at_depth d o) n x (Refuses-at d n.depth w (at_depth e o) n x p)
end_refused false d e w o n x p = Refuses-at d n.depth w (at_depth e o) n x p

at_outer : {A : Type 0} (d e : ℕ) (o n : SerializerState) (r : Result A Error) → e ≡ d → Writes (piece (comma_sign ∷ []) then closed_by e true right_brace) (at_depth e o) r n → Writes (piece (comma_sign ∷ []) then closed_by d true right_brace) (at_depth d o) r n
at_outer d e o n r same p = subst (λ k. Writes (piece (comma_sign ∷ []) then closed_by k true right_brace) (at_depth k o) r n) same p

-- what closes the contents of a variant was written, and then what closes its object
pub end_in_variant : {A : Type 0} (v : Bool) (w : Out) (o m n : SerializerState) (r : Result A Error) → v ≡ true → Wrote w (at_depth (o.depth - 1) o) m
    → Writes (piece (comma_sign ∷ []) then closed_by (m.depth - 1) true right_brace) (at_depth (m.depth - 1) m) r n → Writes (within_variant v (o.depth - inner v 1) w) (at_depth (o.depth - inner v 1) o) r n
end_in_variant true w o m n r e p q =
    let d : ℕ = o.depth - 2 in
    let same : m.depth - 1 ≡ d = let h = p.depth in omega (arith, h) in
    Reaches-last _ (piece (comma_sign ∷ []) then closed_by d true right_brace) _ _ _ r
    (Reaches-first w (piece (comma_sign ∷ []) then closed_by d true right_brace) (at_depth d o) (at_depth d m) (Wrote-at d w (at_depth (o.depth - 1) o) m p)) (at_outer d (m.depth - 1) m n r same q)
end_in_variant false w o m n r e p q = absurd (cc)

-- ---- a call that writes the part that remains first

variant_then : (v : Bool) (d : ℕ) (a b : Out) → within_variant v d (a then b) ≡ a then within_variant v d b
variant_then true d a b = then_assoc a b (piece (comma_sign ∷ []) then closed_by d true right_brace)
variant_then false d a b = refl

-- the output of what remains, and of what closes after it
abbrev pub rest_in : ℕ → Bool → ℕ → Rest → Bool → Out
rest_in limit v d r started = within_variant v d (rest_out limit r (inner v d) started)

-- a part, and then this rest
abbrev pub BeginsWith : ℕ → Out → Rest → Rest → ℕ → Bool → Type 0
BeginsWith limit part rest r d started = rest_out limit r d started ≡ part then rest_out limit rest d true

left_first : (all part : Out) (at o : SerializerState) (v : Bool) (r rest : Rest) (started : Bool) → BeginsWith at.limit part rest r (inner v at.depth) started → Reaches all at o (rest_in at.limit v at.depth r started) → Reaches all at o (part then rest_in at.limit v at.depth rest true)
left_first all part at o v r rest started e h = subst (Reaches all at o) (ap (within_variant v at.depth) e ∙ variant_then v at.depth part (rest_out at.limit rest (inner v at.depth) true)) h

-- the serializer that a collection holds counts as failed after a refusal too
lender-by : (w : Out) (o n : SerializerState) (d : ℕ) (f : Bool) (r : Refusal) → n.failed ≡ true → RefusesBy w o r (record n { depth = d; failed = f }) → RefusesBy w o r n
lender-by w o n d f by_key b p = record { was = p.was; stop = p.stop; bytes = p.bytes; failed = b }
lender-by w o n d f by_depth b p = record { was = p.was; stop = p.stop; bytes = p.bytes; failed = b }
lender-by w o n d f by_writer b p = record { was = p.was; front = p.front; rest = p.rest; cut = p.cut; bytes = p.bytes; failed = b }
lender-by w o n d f by_refusal b p = record { was = p.was; bytes = p.bytes; failed = b }
lender-by w o n d f by_none b p = p

Refuses-lender : (w : Out) (o n : SerializerState) (d : ℕ) (f : Bool) (e : Error) → n.failed ≡ true → RefusesWrite w o e (record n { depth = d; failed = f }) → RefusesWrite w o e n
Refuses-lender w o n d f e b p = record { leaves = lender-by w o n d f (refusal_of (kind_of e)) b p.leaves; no_place = p.no_place }

same_inner : (v w : Bool) (d : ℕ) → w ≡ v → inner v d ≡ inner w d
same_inner v w d e = ap (λ b. inner b d) (sym e)

module _ {W : Type 0} where
  pub remains_on : (t : Written) (name : GName) (at : SerializerState) (c n : SerializeCollection W) (r rest : Rest) (part : Out) (x : ⊤) → BeginsWith at.limit part rest r (inner (in_variant c) at.depth) (has_member c) → is_of_list r ≡ is_of_list rest
      → Remains t name at c r → Steps part (is_value rest) c (Ok x) n → Remains t name at n rest
  remains_on t name at c n r rest part x e same h s =
      let all = out at.limit t at.depth in
      let d = at.depth in
      let on = Reaches-next all part (rest_in at.limit (in_variant c) d rest true) at (at_depth d (state_of c)) (at_depth d (state_of n)) (left_first all part at (at_depth d (state_of c)) (in_variant c) r rest (has_member c) e h.reaches) (Wrote-at d part (state_of c) (state_of n) s.writes) in
      record {
        same_reference = s.same_reference ∙ h.same_reference;
        reaches = subst (λ v. Reaches all at (at_depth d (state_of n)) (rest_in at.limit v d rest (has_member n))) (sym s.variant) (subst (λ b. Reaches all at (at_depth d (state_of n)) (rest_in at.limit (in_variant c) d rest b)) (sym s.started) on);
        depth = s.writes.depth ∙ (h.depth ∙ ap (λ k. k + 1) (same_inner (in_variant c) (in_variant n) d s.variant));
        limit = s.writes.limit ∙ h.limit;
        list = s.list ∙ (h.list ∙ same);
        pending = s.pending;
      }

  pub remains_refused : {A : Type 0} (t : Written) (name : GName) (at last lent : SerializerState) (c n : SerializeCollection W) (r rest : Rest) (part : Out) (pending : Bool) (e : Error) (result : Result A Error)
      → BeginsWith at.limit part rest r (inner (in_variant c) at.depth) (has_member c) → Remains t name at c r → Steps part pending c (Err e) n → IsErrAnd result (λ y. y ≡ e) → lent ≡ serializer_of n → (name ≡ reference_of n → last ≡ lent) → WritesTree t at result last
  remains_refused t name at last lent c n r rest part pending e result b h s is dropped follows =
      let all = out at.limit t at.depth in
      let d = at.depth in
      let left = left_first all part at (at_depth d (state_of c)) (in_variant c) r rest (has_member c) b h.reaches in
      let refused = Reaches-refused all (part then rest_in at.limit (in_variant c) d rest true) at (at_depth d (state_of c)) (at_depth d (state_of n)) e left (Refuses-before part (rest_in at.limit (in_variant c) d rest true) (at_depth d (state_of c)) (at_depth d (state_of n)) e (Refuses-at d d part (state_of c) (state_of n) e s.writes)) in
      let where_left = Writes-handed all at (serializer_of n) e result is (Refuses-lender all at (serializer_of n) d (state_of n).failed e s.blocks refused) in
      subst (Writes all at result) (sym (follows (sym (s.same_reference ∙ h.same_reference)) ∙ dropped)) where_left

  pub remains_all : (t : Written) (ser : MutBor SerializerState) (c : SerializeCollection W) (r : Rest) (o : Out) (v : Bool) → out ser.now.limit t ser.now.depth ≡ o then rest_in ser.now.limit v ser.now.depth r false → Opened o (is_of_list r) v ser c → is_value r ≡ false → Remains t ser.ghost_name ser.now c r
  remains_all t ser c r o v e p first =
      let at = ser.now in
      let d = at.depth in
      let all = out at.limit t d in
      let begun = subst (λ x. Reaches x at (at_depth d (state_of c)) (rest_in at.limit v d r false)) (sym e) (Reaches-first o (rest_in at.limit v d r false) at (at_depth d (state_of c)) p.wrote) in
      record {
        same_reference = p.same_reference;
        reaches = subst (λ b. Reaches all at (at_depth d (state_of c)) (rest_in at.limit b d r (has_member c))) (sym p.variant) (subst (λ b. Reaches all at (at_depth d (state_of c)) (rest_in at.limit v d r b)) (sym p.empty) begun);
        depth = p.depth ∙ ap (λ k. k + 1) (same_inner v (in_variant c) d p.variant);
        limit = p.wrote.limit;
        list = p.list;
        pending = p.pending ∙ sym first;
      }

-- ---- the end

pub closes_list : (b : Brackets) → is_square b ≡ true → closing (bracket_of b) ≡ right_bracket
closes_list brackets.Square e = refl
closes_list brackets.Curly e = absurd (cc)

pub closes_object : (b : Brackets) → is_square b ≡ false → closing (bracket_of b) ≡ right_brace
closes_object brackets.Square e = absurd (cc)
closes_object brackets.Curly e = refl

outer_is : (v : Bool) (d e : ℕ) → e ≡ inner v d + 1 → e - inner v 1 ≡ d
outer_is true d e h = omega (arith, h)
outer_is false d e h = omega (arith, h)

inner_is : (v : Bool) (d e : ℕ) → e ≡ inner v d + 1 → e - 1 ≡ inner v d
inner_is v d e h = omega (arith, h)

pub ends_whole : {A : Type 0} (v started : Bool) (b : Brackets) (sign : ℕ) (all : Out) (at o n : SerializerState) (r : Result A Error) → o.depth ≡ inner v at.depth + 1 → closing (bracket_of b) ≡ sign
    → Reaches all at (at_depth at.depth o) (within_variant v at.depth (closed_by (inner v at.depth) started sign)) → Writes (within_variant v (o.depth - inner v 1) (closed_by (o.depth - 1) started (closing (bracket_of b)))) (at_depth (o.depth - inner v 1) o) r n → Writes all at r n
ends_whole v started b sign all at o n r same is h w =
    let close = subst (λ k. Writes (within_variant v k (closed_by (o.depth - 1) started (closing (bracket_of b)))) (at_depth k o) r n) (outer_is v at.depth o.depth same) w in
    let inside = subst (λ k. Writes (within_variant v at.depth (closed_by k started (closing (bracket_of b)))) (at_depth at.depth o) r n) (inner_is v at.depth o.depth same) close in
    let signed = subst (λ k. Writes (within_variant v at.depth (closed_by (inner v at.depth) started k)) (at_depth at.depth o) r n) is inside in
    Reaches-last all (within_variant v at.depth (closed_by (inner v at.depth) started sign)) at (at_depth at.depth o) n r h signed
