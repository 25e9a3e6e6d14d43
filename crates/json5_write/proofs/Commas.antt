-- Elements and members without the comma after them, and what remains to be written of their collection.
use Rattle.std.proofs.Common.{◌≡◌, ℕ, ◌+◌, ◌-◌, List, [], ◌∷◌, Option, Bool, true, false, Result, Ok, Err, refl, sym, ap, ◌∙◌, subst, arith}
use Rattle.std.specs.Prelude.{⊤}
use Rattle.std.specs.Result.{IsErrAnd}
use Rattle.json5_grammar.specs.Language.Characters.{comma_sign, colon_sign, space}
use Rattle.json5_write.specs.WrittenTrees.{WrittenKey, Written, Elements, element, Fields, field}
use Rattle.json5_write.specs.Out.{Out, piece, ◌then◌, line, opened_by, closed_by, out, elements_out, fields_out, key_part, key_out}
use Rattle.json5_write.specs.Writes.{SerializerState, Wrote, RefusesBy, at_depth, after_closing}
use Rattle.json5_write.specs.ShortWrites.{Puts, refusal_by}
use Rattle.json5_write.specs.declared.refusal.Refused.{Refused}
use Rattle.json5_write.specs.Commas.{comma_before, element_line, member_line}
use Rattle.json5_write.proofs.OutputsJoined.{Reaches, Reaches-first, Reaches-next, Wrote-at, RefusesBy-at, then_assoc}
use Rattle.json5_write.proofs.ShortWritesJoined.{Puts-as, Puts-stop, Reaches-stop, Reaches-end}

pub comma_before_then : (due : Bool) (a b : Out) → comma_before due (a then b) ≡ comma_before due a then b
comma_before_then true a b = sym (then_assoc (piece (comma_sign ∷ [])) a b)
comma_before_then false a b = refl

pub member_parts : (due : Bool) (limit d : ℕ) (k : WrittenKey) (t : Written)
    → comma_before due (member_line limit d k t) ≡ comma_before due (piece (line d)) then (key_out k then (piece (colon_sign ∷ space ∷ []) then out limit t d))
member_parts due limit d k t =
    let rest = piece (colon_sign ∷ space ∷ []) then out limit t d in
    ap (comma_before due) (then_assoc (piece (line d)) (key_out k) rest) ∙ comma_before_then due (piece (line d)) (key_out k then rest)

-- ---- what remains, where the comma after the last member does too

abbrev pub elements_left : ℕ → Elements → ℕ → Bool → Out
elements_left limit ts d due = comma_before due (elements_out limit ts d due)

abbrev pub fields_left : ℕ → Fields → ℕ → Bool → Out
fields_left limit fs d due = comma_before due (fields_out limit fs d due)

-- ((a then (b then c)) then rest) as (a then b) then (c then rest)
comma_later : (a b c rest : Out) → (a then (b then c)) then rest ≡ (a then b) then (c then rest)
comma_later a b c rest = then_assoc a (b then c) rest ∙ (ap (λ o. a then o) (then_assoc b c rest) ∙ sym (then_assoc a b (c then rest)))

next_element : (limit d : ℕ) (due : Bool) (t : Written) (ts : Elements) → elements_left limit (element t ts) d due ≡ comma_before due (element_line limit (d + 1) t) then elements_left limit ts d true
next_element limit d due t ts =
    let rest = elements_out limit ts d true in
    ap (comma_before due) (comma_later (piece (line (d + 1))) (out limit t (d + 1)) (piece (comma_sign ∷ [])) rest)
    ∙ comma_before_then due (element_line limit (d + 1) t) (piece (comma_sign ∷ []) then rest)

-- k then ((p then (o then c)) then rest) as (k then (p then o)) then (c then rest)
field_comma_later : (k p o c rest : Out) → k then ((p then (o then c)) then rest) ≡ (k then (p then o)) then (c then rest)
field_comma_later k p o c rest = ap (λ x. k then x) (comma_later p o c rest) ∙ sym (then_assoc k (p then o) (c then rest))

next_field : (limit d : ℕ) (due : Bool) (k : WrittenKey) (t : Written) (fs : Fields) → fields_left limit (field k t fs) d due ≡ comma_before due (member_line limit (d + 1) k t) then fields_left limit fs d true
next_field limit d due k t fs =
    let rest = fields_out limit fs d true in
    ap (comma_before due) (field_comma_later (key_part (d + 1) k) (piece (colon_sign ∷ space ∷ [])) (out limit t (d + 1)) (piece (comma_sign ∷ [])) rest)
    ∙ comma_before_then due (member_line limit (d + 1) k t) (piece (comma_sign ∷ []) then rest)

-- of the collection that was begun at `at`, this remains to be written
pub record Left (all : Out) (at s : SerializerState) (rest : Out) : Type 0 where
  pub reaches : Reaches all at (at_depth at.depth s) rest
  pub depth : s.depth ≡ at.depth + 1
  pub limit : s.limit ≡ at.limit

pub left_first : (sign : ℕ) (rest : Out) (at s : SerializerState) → Wrote (opened_by at.limit at.depth sign) at (at_depth at.depth s) → s.depth ≡ at.depth + 1 → Left (opened_by at.limit at.depth sign then rest) at s rest
left_first sign rest at s p deeper = record { reaches = Reaches-first (opened_by at.limit at.depth sign) rest at (at_depth at.depth s) p; depth = deeper; limit = p.limit }

left_next : (all a rest : Out) (at s n : SerializerState) → Left all at s (a then rest) → Wrote a s n → Left all at n rest
left_next all a rest at s n h p = record { reaches = Reaches-next all a rest at (at_depth at.depth s) (at_depth at.depth n) h.reaches (Wrote-at at.depth a s n p); depth = p.depth ∙ h.depth; limit = p.limit ∙ h.limit }

-- at the limit and the brackets with which the collection was begun
moved : (P : ℕ → ℕ → Type 0) (at s : SerializerState) → s.depth ≡ at.depth + 1 → s.limit ≡ at.limit → P s.limit s.depth → P at.limit (at.depth + 1)
moved P at s deeper same p = subst (λ l. P l (at.depth + 1)) same (subst (P s.limit) deeper p)

pub element_line_on : {all : Out} {at s n : SerializerState} (t : Written) (ts : Elements) (due : Bool) → Left all at s (elements_left at.limit (element t ts) at.depth due) → Wrote (comma_before due (element_line s.limit s.depth t)) s n → Left all at n (elements_left at.limit ts at.depth true)
element_line_on {all} {at} {s} {n} t ts due h p =
    left_next all (comma_before due (element_line at.limit (at.depth + 1) t)) (elements_left at.limit ts at.depth true) at s n
    (subst (Left all at s) (next_element at.limit at.depth due t ts) h) (moved (λ l d. Wrote (comma_before due (element_line l d t)) s n) at s h.depth h.limit p)

pub member_line_on : {all : Out} {at s n : SerializerState} (k : WrittenKey) (t : Written) (fs : Fields) (due : Bool) → Left all at s (fields_left at.limit (field k t fs) at.depth due) → Wrote (comma_before due (member_line s.limit s.depth k t)) s n → Left all at n (fields_left at.limit fs at.depth true)
member_line_on {all} {at} {s} {n} k t fs due h p =
    left_next all (comma_before due (member_line at.limit (at.depth + 1) k t)) (fields_left at.limit fs at.depth true) at s n
    (subst (Left all at s) (next_field at.limit at.depth due k t fs) h) (moved (λ l d. Wrote (comma_before due (member_line l d k t)) s n) at s h.depth h.limit p)

-- ---- lists and entries

pub elements_as : {all : Out} {at s : SerializerState} (due : Bool) {ts us : Elements} → ts ≡ us → Left all at s (elements_left at.limit ts at.depth due) → Left all at s (elements_left at.limit us at.depth due)
elements_as {all} {at} {s} due e h = subst (λ ts. Left all at s (elements_left at.limit ts at.depth due)) e h

pub fields_as : {all : Out} {at s : SerializerState} (due : Bool) {fs gs : Fields} → fs ≡ gs → Left all at s (fields_left at.limit fs at.depth due) → Left all at s (fields_left at.limit gs at.depth due)
fields_as {all} {at} {s} due e h = subst (λ fs. Left all at s (fields_left at.limit fs at.depth due)) e h

-- ---- a tree after a part was written

-- ---- the same of calls that return a small value

pub open_stop : (sign : ℕ) (rest : Out) (at n : SerializerState) (r : Refused) (x : Result ⊤ Refused) → RefusesBy (opened_by at.limit at.depth sign) at (refusal_by r) (at_depth at.depth n) → IsErrAnd x (λ y. y ≡ r)
    → Puts (opened_by at.limit at.depth sign then rest) at x n
open_stop sign rest at n r x p is =
    let first = opened_by at.limit at.depth sign in
    Puts-stop first rest at n r x is (RefusesBy-at at.depth n.depth first at (at_depth at.depth n) (refusal_by r) p)

left_stop : (all a rest : Out) (at s n : SerializerState) (r : Refused) (x : Result ⊤ Refused) → Left all at s (a then rest) → IsErrAnd x (λ y. y ≡ r) → RefusesBy a s (refusal_by r) n → Puts all at x n
left_stop all a rest at s n r x h is p = Reaches-stop all a rest at (at_depth at.depth s) n r x h.reaches is (RefusesBy-at at.depth n.depth a s n (refusal_by r) p)

pub element_stop : {all : Out} {at s : SerializerState} (n : SerializerState) (r : Refused) (t : Written) (ts : Elements) (x : Result ⊤ Refused) (due : Bool) → Left all at s (elements_left at.limit (element t ts) at.depth due)
    → RefusesBy (comma_before due (element_line s.limit s.depth t)) s (refusal_by r) n → IsErrAnd x (λ y. y ≡ r) → Puts all at x n
element_stop {all} {at} {s} n r t ts x due h p is =
    left_stop all (comma_before due (element_line at.limit (at.depth + 1) t)) (elements_left at.limit ts at.depth true) at s n r x
    (subst (Left all at s) (next_element at.limit at.depth due t ts) h) is (moved (λ l d. RefusesBy (comma_before due (element_line l d t)) s (refusal_by r) n) at s h.depth h.limit p)

pub member_stop : {all : Out} {at s : SerializerState} (n : SerializerState) (r : Refused) (k : WrittenKey) (t : Written) (fs : Fields) (x : Result ⊤ Refused) (due : Bool) → Left all at s (fields_left at.limit (field k t fs) at.depth due)
    → RefusesBy (comma_before due (member_line s.limit s.depth k t)) s (refusal_by r) n → IsErrAnd x (λ y. y ≡ r) → Puts all at x n
member_stop {all} {at} {s} n r k t fs x due h p is =
    left_stop all (comma_before due (member_line at.limit (at.depth + 1) k t)) (fields_left at.limit fs at.depth true) at s n r x
    (subst (Left all at s) (next_field at.limit at.depth due k t fs) h) is (moved (λ l d. RefusesBy (comma_before due (member_line l d k t)) s (refusal_by r) n) at s h.depth h.limit p)

pub left_closed : {all : Out} {at s : SerializerState} (sign : ℕ) (n : SerializerState) (x : Result ⊤ Refused) (due : Bool) → Left all at s (comma_before due (closed_by at.depth due sign))
    → Puts (comma_before due (closed_by (s.depth - 1) due sign)) (after_closing s) x n → Puts all at x n
left_closed {all} {at} {s} sign n x due h p =
    let d : s.depth - 1 ≡ at.depth = let k = h.depth in omega (arith, k) in
    Reaches-end all (comma_before due (closed_by at.depth due sign)) at (at_depth at.depth s) n x h.reaches (subst (λ k. Puts (comma_before due (closed_by k due sign)) (at_depth k s) x n) d p)

pub tree_put : {a : Out} {o m : SerializerState} (s n : SerializerState) (x : Result ⊤ Refused) (t : Written) → Wrote a o m → Puts (out m.limit t m.depth) s x n → Puts (out o.limit t o.depth) s x n
tree_put {a} {o} {m} s n x t w p = subst (λ l. Puts (out l t o.depth) s x n) w.limit (subst (λ d. Puts (out m.limit t d) s x n) w.depth p)

pub tree_wrote : {a : Out} {o m : SerializerState} (s n : SerializerState) (t : Written) → Wrote a o m → Wrote (out m.limit t m.depth) s n → Wrote (out o.limit t o.depth) s n
tree_wrote s n t w p = tree_put s n (Ok tt) t w p

pub tree_refused : {a : Out} {o m : SerializerState} (s n : SerializerState) (r : Refused) (t : Written) → Wrote a o m → RefusesBy (out m.limit t m.depth) s (refusal_by r) n → RefusesBy (out o.limit t o.depth) s (refusal_by r) n
tree_refused s n r t w p = tree_put s n (Err r) t w p

-- an element on its line, after the comma that is due
pub element_put : {o m : SerializerState} (n : SerializerState) (due : Bool) (t : Written) (x : Result ⊤ Refused) → Wrote (comma_before due (piece (line o.depth))) o m → Puts (out m.limit t m.depth) m x n
    → Puts (comma_before due (element_line o.limit o.depth t)) o x n
element_put {o} {m} n due t x w p =
    let value = out o.limit t o.depth in
    Puts-as _ _ o n x (comma_before_then due (piece (line o.depth)) value) (Reaches-end _ value o m n x (Reaches-first (comma_before due (piece (line o.depth))) value o m w) (tree_put m n x t w p))

pub element_unbegun : (o n : SerializerState) (r : Refused) (due : Bool) (t : Written) → RefusesBy (comma_before due (piece (line o.depth))) o (refusal_by r) n → RefusesBy (comma_before due (element_line o.limit o.depth t)) o (refusal_by r) n
element_unbegun o n r due t p =
    let value = out o.limit t o.depth in
    Puts-as _ _ o n (Err r) (comma_before_then due (piece (line o.depth)) value) (Puts-stop (comma_before due (piece (line o.depth))) value o n r (Err r) refl p)

-- one open bracket less
pub lowered : (known : Option (List ℕ)) (depth n limit : ℕ) (failed : Bool) (old : SerializerState) → record { known = known; depth = depth; limit = limit; failed = failed } ≡ old → n ≡ depth - 1
    → record { known = known; depth = n; limit = limit; failed = failed } ≡ after_closing old
lowered known depth n limit failed old is less = rw less (ap after_closing is)
