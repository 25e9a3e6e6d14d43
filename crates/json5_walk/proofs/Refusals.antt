-- What is due in a document is in front of a walk, so that no call is refused there.
use Rattle.std.proofs.Common.{◌≡◌, ℕ, ◌≤◌, ◌-◌, Bool, true, false, List, [], ◌∷◌, ◌++◌, length, refl, ap, sym, ◌∙◌, arith, subst, Option, Some, None, inl, inr, ◌⊎◌}
use Rattle.std.specs.Prelude.{◌==◌, slice_get, IfNone}
use Rattle.json5_grammar.specs.declared.error_code.ErrorCode.{ErrorCode}
use Rattle.json5_grammar.specs.Language.Blanks.{Blanks, LastBlanks, Gap, is_solid, Solid}
use Rattle.json5_grammar.specs.Language.Characters.{NotBegun}
use Rattle.json5_grammar.specs.Language.Names.{Key}
use Rattle.json5_grammar.specs.Language.Trees.{Tree, Trees, Members, no_more, more, no_member, member, depth}
use Rattle.json5_grammar.specs.Language.Values.{Reads}
use Rattle.json5_grammar.specs.Model.Collections.{IsSign, Tail, MembersTail}
use Rattle.json5_grammar.specs.Model.Reading.{Read, got, bad, and_then}
use Rattle.json5_grammar.specs.Model.ReadBlanks.{skip, between}
use Rattle.json5_grammar.specs.Model.ReadSteps.{forget}
use Rattle.json5_grammar.specs.Model.ReadValues.{read}
use Rattle.json5_grammar.proofs.ArraysRead.{comma_solid, bracket_solid}
use Rattle.json5_grammar.proofs.BlanksRead.{begins_solid, skip_blanks, skip_last, skip_rest}
use Rattle.json5_grammar.proofs.BlanksSound.{blank_refused, gap_last, one_gap}
use Rattle.json5_grammar.proofs.EntriesAfterGaps.{no_sign}
use Rattle.json5_grammar.proofs.ObjectsRead.{colon_solid, brace_solid}
use Rattle.json5_grammar.proofs.OneTree.{phrase_complete}
use Rattle.json5_grammar.proofs.Refusals.{not_both}
use Rattle.json5_grammar.proofs.ValueHeads.{val_head, key_head, key_solid, skip_value, skip_key}
use Rattle.json5_tokens.specs.Cursor.{Cursor}
use Rattle.json5_tokens.specs.TokenFaults.{FaultyBlanks}
use Rattle.json5_types.specs.declared.error.Error.{Error}
use Rattle.json5_read.specs.ModelSteps.{RefusesRead, value_at}
use Rattle.json5_grammar.specs.Faults.Fronts.{BracketKind}
use Rattle.json5_read.specs.Brackets.{bracket_of, brackets_of}
use Rattle.json5_read.specs.declared.brackets.BracketPair.{BracketPair}
use Rattle.json5_read.specs.declared.brackets.BracketKind.{BracketKind as Kind}
use Rattle.json5_read.specs.declared.brackets.BracketKind.TheVariants as kind
use Rattle.json5_walk.specs.declared.next.Next.{Next}
use Rattle.json5_walk.specs.declared.next.Next.TheVariants as next
use Rattle.json5_walk.specs.Nexts.{takes_value}
use Rattle.json5_walk.specs.Frames.{Frame, frame_kinds, in_array, in_object, Fits, text_end, At, at_value, at_element, at_key, at_colon, at_comma, next_of, kinds_of, value_frames, CompletesTo}
use Rattle.json5_walk.specs.Walks.{may_close, NotClosed, NotParted, Walked, Trail, IsAt, Live, IsWalk, IsDocumentWithin, IsHopeless, AwaitsValue, AwaitsKey, AwaitsColon, HasEnded}
use Rattle.json5_walk.proofs.Rests.{value_count, first_due, element_due}
use Rattle.json5_walk.proofs.Calls.{live_takes}

-- what is due is unread
unread_due : {v : Walked} (s : Trail) → IsAt v s → IsDocumentWithin v.limit v.text → (w : Tree) × CompletesTo v.limit s.now v.unread w
unread_due s f (w, d) = (w, f.back text_end w d)

-- ---- blanks

sign_passes : (c : ℕ) (x r : List ℕ) → is_solid c ≡ true → IsSign c x r → (y : List ℕ) × (skip between x ≡ got tt y)
sign_passes c x r h a = (c ∷ r, ap (skip between) a.split ∙ skip_blanks (c ∷ r) a.blank ∙ skip_rest (c ∷ r) (begins_solid c r h))

value_passes : (x r : List ℕ) (t : Tree) → Reads x t r → (y : List ℕ) × (skip between x ≡ got tt y)
value_passes x r t p = (p.phrase ++ r, ap (skip between) p.split ∙ skip_blanks (p.phrase ++ r) p.blank ∙ skip_value r (val_head p.value))

tail_passes : (ts : Trees) (due : Bool) (x r : List ℕ) → Tail ts due x r → (y : List ℕ) × (skip between x ≡ got tt y)
tail_passes no_more false x r a = sign_passes 93 x r bracket_solid a
tail_passes no_more true x r (inl a) = sign_passes 93 x r bracket_solid a
tail_passes no_more true x r (inr (z, a, b)) = sign_passes 44 x z comma_solid a
tail_passes (more t ts) false x r (z, p, tl) = value_passes x z t p
tail_passes (more t ts) true x r (z, (q, a, p), tl) = sign_passes 44 x q comma_solid a

pairs_pass : (ps : Members) (due : Bool) (x r : List ℕ) → MembersTail ps due x r → (y : List ℕ) × (skip between x ≡ got tt y)
pairs_pass no_member false x r a = sign_passes 125 x r brace_solid a
pairs_pass no_member true x r (inl a) = sign_passes 125 x r brace_solid a
pairs_pass no_member true x r (inr (z, a, b)) = sign_passes 44 x z comma_solid a
pairs_pass (member u e t ps) false x r (k, z, key, v, tl) = (key.spelling ++ k, ap (skip between) key.split ∙ skip_blanks (key.spelling ++ k) key.blank ∙ skip_key k (key_head key.key))
pairs_pass (member u e t ps) true x r (k, z, (q, a, key), v, tl) = sign_passes 44 x q comma_solid a

due_passes : (limit : ℕ) (a : At) (x : List ℕ) (w : Tree) → CompletesTo limit a x w → (y : List ℕ) × (skip between x ≡ got tt y)
due_passes limit (at_value o) x w (t, r, p, f, h) = value_passes x r t p
due_passes limit (at_element ts o) x w (us, r, tl, f, h) = tail_passes us false x r tl
due_passes limit (at_key ps o) x w (qs, r, tl, f, h) = pairs_pass qs false x r tl
due_passes limit (at_colon ps u b o) x w (t, r, (z, a, p), f, h) = sign_passes 58 x z colon_solid a
due_passes limit (at_comma t []) x w (l, is) = ([], skip_last l)
due_passes limit (at_comma t (in_array ts ∷ o)) x w (us, r, tl, f, h) = tail_passes us true x r tl
due_passes limit (at_comma t (in_object ps u b ∷ o)) x w (qs, r, tl, f, h) = pairs_pass qs true x r tl

pub gap_hopeless : {v : Walked} {reason : Option ErrorCode} {place : Option (List ℕ)} → IsWalk v → FaultyBlanks v.unread reason place → Live v.next → IsHopeless v
gap_hopeless {v = v} {reason = reason} {place = place} walk (before, part, shown, fault) l d =
    let (s, f) = walk.live l in
    let (w, c) = unread_due s f d in
    let (y, passes) = due_passes v.limit s.now v.unread w c in
    not_both (skip between v.unread) v.unread y tt reason place passes (blank_refused fault)

-- ---- values

no_sign_here : (c : ℕ) (x r : List ℕ) → is_solid c ≡ true → Solid x → NotBegun (λ d. d == c) x → IsSign c x r → ⊥
no_sign_here c x r h s n a = no_sign c x [] x r h refl (Gap.blanks Blanks.empty) s n a

value_in_front : (limit : ℕ) (a : At) (x : List ℕ) (w : Tree) → true ≡ takes_value (next_of a) → Solid x → (next_of a ≡ next.Element → NotBegun (λ c. c == 93) x) → CompletesTo limit a x w → (t : Tree) × (r : List ℕ) × Reads x t r × Fits limit (length (value_frames a)) (depth t)
value_in_front limit (at_value o) x w v s n (t, r, p, f, h) = (t, r, p, f)
value_in_front limit (at_element ts o) x w v s n c =
    let (t, r, p) = first_due limit text_end ts o x w (λ r. no_sign_here 93 x r bracket_solid s (n refl)) c in
    let (f, h) = element_due limit text_end ts o x r t w p c in
    (t, r, p, f)
value_in_front limit (at_key ps o) x w v s n c = absurd (cc)
value_in_front limit (at_colon ps u b o) x w v s n c = absurd (cc)
value_in_front limit (at_comma t o) x w v s n c = absurd (cc)

reads_so : (room : ℕ) (x r : List ℕ) (t : Tree) → Solid x → Reads x t r → depth t ≤ room → forget (read room x) ≡ got tt r
reads_so room x r t s p l = ap forget (sym (ap (λ m. and_then m (λ u y. read room y)) (skip_rest x s)) ∙ phrase_complete room x r t p l)

not_bad : {m : Read (Unit {0})} {r : List ℕ} {e : Error} {input : List ℕ} → m ≡ got tt r → RefusesRead input m e → ⊥
not_bad {r = r} is k = let h : got tt r ≡ bad k.reason k.place = sym is ∙ k.is_bad in absurd (cc)

pub value_hopeless : {v : Walked} {room : ℕ} {now : Cursor} {e : Error} → IsWalk v → room ≡ v.limit - length v.kinds → now.unread ≡ v.unread → RefusesRead now.input (value_at room now) e → AwaitsValue v → IsHopeless v
value_hopeless {v = v} {room = room} {now = now} walk room_is same k a d =
    let (s, f) = walk.live (live_takes v.next a.due) in
    let (w, c) = unread_due s f d in
    let takes : true ≡ takes_value (next_of s.now) = a.due ∙ ap takes_value (sym f.is_next) in
    let (t, r, p, fits) = value_in_front v.limit s.now v.unread w takes a.solid (λ h. a.unclosed (sym f.is_next ∙ h)) c in
    let count : length (value_frames s.now) ≡ length v.kinds = sym (value_count s.now takes) ∙ ap length f.is_kinds in
    let is : forget (read room now.unread) ≡ got tt r = ap (λ z. forget (read room z)) same ∙ reads_so room v.unread r t a.solid p (omega (arith, fits, count, room_is)) in
    not_bad is k

-- ---- keys and signs

key_in_front : (limit : ℕ) (a : At) (x : List ℕ) (w : Tree) → next_of a ≡ next.Key → Solid x → NotBegun (λ c. c == 125) x → CompletesTo limit a x w → (k : List ℕ) × (u : List ℕ) × (b : Bool) × (y : List ℕ) × (x ≡ k ++ y) × Key k y u b
key_in_front limit (at_key ps o) x w is s n (no_member, r, a, f, h) = absurd (no_sign_here 125 x r brace_solid s n a)
key_in_front limit (at_key ps o) x w is s n (member u b t qs, r, (y, z, k, v, tl), f, h) =
    let g = one_gap k.front (k.spelling ++ y) [] x (Gap.blanks k.blank) (key_solid y (key_head k.key)) (Gap.blanks Blanks.empty) s (sym k.split) in
    (k.spelling, u, b, y, g.1, k.key)
key_in_front limit (at_value o) x w is s n c = absurd (cc)
key_in_front limit (at_element ts o) x w is s n c = absurd (cc)
key_in_front limit (at_colon ps u b o) x w is s n c = absurd (cc)
key_in_front limit (at_comma t o) x w is s n c = absurd (cc)

-- a key comes, in a document
pub key_comes : {v : Walked} → IsWalk v → AwaitsKey v → IsDocumentWithin v.limit v.text → (k : List ℕ) × (u : List ℕ) × (b : Bool) × (y : List ℕ) × (v.unread ≡ k ++ y) × Key k y u b
key_comes {v = v} walk a d =
    let (s, f) = walk.live (subst Live (sym a.due) tt) in
    let (w, c) = unread_due s f d in
    key_in_front v.limit s.now v.unread w (f.is_next ∙ a.due) a.solid a.unclosed c

colon_in_front : (limit : ℕ) (a : At) (x : List ℕ) (w : Tree) → next_of a ≡ next.Colon → CompletesTo limit a x w → (r : List ℕ) × IsSign 58 x r
colon_in_front limit (at_colon ps u b o) x w is (t, r, (z, a, p), f, h) = (z, a)
colon_in_front limit (at_value o) x w is c = absurd (cc)
colon_in_front limit (at_element ts o) x w is c = absurd (cc)
colon_in_front limit (at_key ps o) x w is c = absurd (cc)
colon_in_front limit (at_comma t o) x w is c = absurd (cc)

pub colon_hopeless : {v : Walked} → IsWalk v → NotBegun (λ c. c == 58) v.unread → AwaitsColon v → IsHopeless v
colon_hopeless {v = v} walk n a d =
    let (s, f) = walk.live (subst Live (sym a.due) tt) in
    let (w, c) = unread_due s f d in
    let (r, sign) = colon_in_front v.limit s.now v.unread w (f.is_next ∙ a.due) c in
    no_sign_here 58 v.unread r colon_solid a.solid n sign

-- after an entry a comma comes, or the closing bracket
tail_parts : (ts : Trees) (x r : List ℕ) → Tail ts true x r → (z : List ℕ) × (IsSign 93 x z ⊎ IsSign 44 x z)
tail_parts no_more x r (inl a) = (r, inl a)
tail_parts no_more x r (inr (z, a, b)) = (z, inr a)
tail_parts (more t ts) x r (z, (q, a, p), tl) = (q, inr a)

pairs_part : (ps : Members) (x r : List ℕ) → MembersTail ps true x r → (z : List ℕ) × (IsSign 125 x z ⊎ IsSign 44 x z)
pairs_part no_member x r (inl a) = (r, inl a)
pairs_part no_member x r (inr (z, a, b)) = (z, inr a)
pairs_part (member u e t ps) x r (k, z, (q, a, key), v, tl) = (q, inr a)

no_part : (c : ℕ) (x z : List ℕ) → is_solid c ≡ true → Solid x → NotBegun (λ d. d == c) x → NotBegun (λ d. d == 44) x → IsSign c x z ⊎ IsSign 44 x z → ⊥
no_part c x z h s n m (inl a) = no_sign_here c x z h s n a
no_part c x z h s n m (inr a) = no_sign_here 44 x z comma_solid s m a

pub within_hopeless : {v : Walked} {t : Tree} {f : Frame} {o : List Frame} {m : Option (List Frame)} → IsAt v (record { now = at_comma t (f ∷ o); marked = m }) → Solid v.unread → NotParted v → NotClosed v → IsHopeless v
within_hopeless {v = v} {f = in_array ts} {o = o} is s p n d =
    let (us, r, tl, fits, h) = is.back text_end d.0 d.1 in
    let (z, sign) = tail_parts us v.unread r tl in
    no_part 93 v.unread z bracket_solid s (n kind.Array (frame_kinds o) (sym is.is_kinds) (ap (may_close kind.Array) is.is_next)) (p kind.Array (frame_kinds o) (sym is.is_kinds) (sym is.is_next)) sign
within_hopeless {v = v} {f = in_object ps u b} {o = o} is s p n d =
    let (qs, r, tl, fits, h) = is.back text_end d.0 d.1 in
    let (z, sign) = pairs_part qs v.unread r tl in
    no_part 125 v.unread z brace_solid s (n kind.Object (frame_kinds o) (sym is.is_kinds) (ap (may_close kind.Object) is.is_next)) (p kind.Object (frame_kinds o) (sym is.is_kinds) (sym is.is_next)) sign

-- ---- the end

last_in_front : (limit : ℕ) (a : At) (x : List ℕ) (w : Tree) → next_of a ≡ next.Comma → kinds_of a ≡ [] → CompletesTo limit a x w → LastBlanks x
last_in_front limit (at_comma t []) x w is none (l, same) = l
last_in_front limit (at_comma t (in_array ts ∷ o)) x w is none c = absurd (cc)
last_in_front limit (at_comma t (in_object ps u b ∷ o)) x w is none c = absurd (cc)
last_in_front limit (at_value o) x w is none c = absurd (cc)
last_in_front limit (at_element ts o) x w is none c = absurd (cc)
last_in_front limit (at_key ps o) x w is none c = absurd (cc)
last_in_front limit (at_colon ps u b o) x w is none c = absurd (cc)

something : (y : List ℕ) → y ≡ [] → (slice_get y 0 ≡ None → ⊥) → ⊥
something y e k = k (ap (λ z. slice_get z 0) e)

-- something else than blanks follows
pub end_hopeless : {v : Walked} {g y : List ℕ} → IsWalk v → v.unread ≡ g ++ y → Gap g y → Solid y → (slice_get y 0 ≡ None → ⊥) → HasEnded v → IsHopeless v
end_hopeless {v = v} {g = g} {y = y} walk e b solid k a d =
    let (s, f) = walk.live (subst Live (sym a.due) tt) in
    let (w, c) = unread_due s f d in
    let l = last_in_front v.limit s.now v.unread w (f.is_next ∙ a.due) (f.is_kinds ∙ a.none) c in
    something y (gap_last v.unread g y l b solid e).1 k

-- ---- a bracket that stays open

same_kind : (k l : Kind) → bracket_of k ≡ bracket_of l → k ≡ l
same_kind kind.Array kind.Array e = refl
same_kind kind.Object kind.Object e = refl
same_kind kind.Array kind.Object e = absurd (cc)
same_kind kind.Object kind.Array e = absurd (cc)

first_kind : (a b : BracketKind) (o p : List BracketKind) → a ∷ o ≡ b ∷ p → a ≡ b
first_kind a b o p e = cc

innermost_is : {kinds : List BracketKind} (k b : Kind) (o p : List BracketKind) → kinds ≡ bracket_of k ∷ o → kinds ≡ bracket_of b ∷ p → b ≡ k
innermost_is k b o p e h = same_kind b k (first_kind (bracket_of b) (bracket_of k) p o (sym h ∙ e))

module _ {kinds : List BracketKind} (n : Next) (unread : List ℕ) where
  pub none_to_close : kinds ≡ [] → (k : Kind) (o : List BracketKind) → kinds ≡ bracket_of k ∷ o → true ≡ may_close k n → NotBegun (λ c. c == (brackets_of k).closing) unread
  none_to_close e k o h m = let none : [] ≡ bracket_of k ∷ o = sym e ∙ h in absurd (cc)

  pub closes_not_yet : (b : Kind) (p : List BracketKind) → kinds ≡ bracket_of b ∷ p → false ≡ may_close b n → (k : Kind) (o : List BracketKind) → kinds ≡ bracket_of k ∷ o → true ≡ may_close k n → NotBegun (λ c. c == (brackets_of k).closing) unread
  closes_not_yet b p h not k o e m =
      let same = innermost_is k b o p e h in
      let clash : true ≡ false = m ∙ ap (λ z. may_close z n) (sym same) ∙ sym not in
      absurd (cc)

  pub other_closing : (b : Kind) (p : List BracketKind) (signs : BracketPair) → kinds ≡ bracket_of b ∷ p → signs ≡ brackets_of b → NotBegun (λ c. c == signs.closing) unread → (k : Kind) (o : List BracketKind) → kinds ≡ bracket_of k ∷ o → true ≡ may_close k n → NotBegun (λ c. c == (brackets_of k).closing) unread
  other_closing b p signs h is begun k o e m =
      let same = innermost_is k b o p e h in
      subst (λ z. NotBegun (λ c. c == (brackets_of z).closing) unread) same (subst (λ (z : BracketPair). NotBegun (λ c. c == z.closing) unread) is begun)

pub if_none : {T : Type 0} {X : Type 0} (r : Option T) → X → IfNone r X
if_none None x = x
if_none (Some a) x = tt
