-- What stands before and after a seam between whole tokens.
use Rattle.std.proofs.Common.{◌≡◌, ℕ, Bool, true, false, List, [], ◌∷◌, ◌++◌, refl, ap, sym, ◌∙◌, append_assoc, subst, inl, inr, ◌⊎◌}
use Rattle.std.specs.Str.{chars}
use Rattle.json5_grammar.specs.Language.Trees.{Tree, null, boolean, number, text, array, object, Trees, Members, no_more, more, no_member, member}
use Rattle.json5_grammar.specs.Language.Values.{Reads}
use Rattle.json5_grammar.specs.Model.Collections.{IsSign, ReadsKey, Tail, MembersTail}
use Rattle.json5_lexemes.specs.Plain.{is_closing}
use Rattle.json5_read.specs.declared.brackets.BracketKind.{BracketKind as Kind}
use Rattle.json5_walk.specs.Frames.{Frame, in_array, in_object, value_end, Spells, ClosesTo}
use Rattle.json5_walk.specs.Seams.{WholeTokens, then_blanks, then_punctuator, then_key, then_value, as_unended}
use Rattle.json5_walk.proofs.Rests.{append_nil}
use Rattle.json5_edit.specs.Pieces.{IsName, name, IsEnd, IsEntryText}
use Rattle.json5_edit.specs.Places.{EndsEntry, EndsValue}
use Rattle.json5_edit.specs.Spots.{Goes, Spot, Parts, first_element, first_member}

-- ---- after a value

tail_ends : (us : Trees) (x r : List ℕ) → Tail us true x r → EndsEntry x
tail_ends no_more x r (inl a) = (93, r, refl, a)
tail_ends no_more x r (inr (y, a, b)) = (44, y, refl, a)
tail_ends (more t us) x r (y, (z, a, p), tl) = (44, z, refl, a)

members_end : (qs : Members) (x r : List ℕ) → MembersTail qs true x r → EndsEntry x
members_end no_member x r (inl a) = (125, r, refl, a)
members_end no_member x r (inr (y, a, b)) = (44, y, refl, a)
members_end (member u e t qs) x r (y, z, (w, a, k), v, tl) = (44, w, refl, a)

pub goes_ends : (u : Tree) (x : List ℕ) → Goes true u x → EndsEntry x
goes_ends (array us) x g = tail_ends us x [] g
goes_ends (object qs) x g = members_end qs x [] g
goes_ends null x g = absurd g
goes_ends (boolean b) x g = absurd g
goes_ends (number n) x g = absurd g
goes_ends (text u b) x g = absurd g

-- what closes the brackets after a value
pub closes_ends : (limit : ℕ) (o : List Frame) (x : List ℕ) (t w : Tree) → ClosesTo limit o t x w → EndsValue x
closes_ends limit [] x t w (l, is) = inr l
closes_ends limit (in_array ts ∷ o) x t w (us, r, tl, f, h) = inl (tail_ends us x r tl)
closes_ends limit (in_object ps u b ∷ o) x t w (qs, r, tl, f, h) = inl (members_end qs x r tl)

-- where a comma is due, a comma or a closing bracket comes
pub spot_ends : {limit n : ℕ} {bytes : List ℕ} {t : Tree} (w : Tree) → Spells value_end limit (chars bytes) w → (p : Spot limit bytes t true n) → EndsEntry p.rest
spot_ends w s p = let (u, k, g, d, e) = p.back w s in goes_ends u p.rest g

-- ---- before an entry

-- x goes on with an entry: an element, or a member's key
pub data BeginsEntry (x : List ℕ) : Type 0 where
  begins_element : (t : Tree) (r : List ℕ) → Reads x t r → BeginsEntry x
  begins_member : (u r : List ℕ) (escape_free : Bool) → ReadsKey x u escape_free r → BeginsEntry x

-- x goes on with blanks and a closing bracket
abbrev pub BeginsClosing : List ℕ → Type 0
BeginsClosing x = (c : ℕ) × (r : List ℕ) × (is_closing c ≡ true) × IsSign c x r

pub goes_begins : (u : Tree) (x : List ℕ) → Goes false u x → BeginsEntry x ⊎ BeginsClosing x
goes_begins (array no_more) x a = inr (93, [], refl, a)
goes_begins (array (more t us)) x (y, p, tl) = inl (begins_element t y p)
goes_begins (object no_member) x a = inr (125, [], refl, a)
goes_begins (object (member u e t qs)) x (y, z, k, v, tl) = inl (begins_member u y e k)
goes_begins null x g = absurd g
goes_begins (boolean b) x g = absurd g
goes_begins (number n) x g = absurd g
goes_begins (text u b) x g = absurd g

-- where no comma is due, an entry or a closing bracket comes
pub spot_begins : {limit n : ℕ} {bytes : List ℕ} {t : Tree} (w : Tree) → Spells value_end limit (chars bytes) w → (p : Spot limit bytes t false n) → BeginsEntry p.rest ⊎ BeginsClosing p.rest
spot_begins w s p = let (u, k, g, d, e) = p.back w s in goes_begins u p.rest g

-- where an entry is left, it comes
pub parts_begin : {k : Kind} {u t r : Tree} {x : List ℕ} → Parts k u t r → Goes false u x → BeginsEntry x
parts_begin (first_element t us) (y, p, tl) = begins_element t y p
parts_begin (first_member u e t qs) (y, z, k, v, tl) = begins_member u y e k

-- ---- over an entry

name_tokens : (x n : List ℕ) → WholeTokens false x → (n ≡ []) ⊎ IsName n → WholeTokens false (x ++ n)
name_tokens x n h (inl none) = subst (λ z. WholeTokens false (x ++ z)) (sym none) (subst (WholeTokens false) (sym (append_nil x)) h)
name_tokens x n h (inr (name {k = k} {b = b} {w = w} q before after)) =
    subst (WholeTokens false) (append_assoc ((x ++ k) ++ b) (58 ∷ []) w ∙ append_assoc (x ++ k) b (58 ∷ w) ∙ append_assoc x k (b ++ 58 ∷ w)) (then_blanks (then_punctuator 58 (then_blanks (then_key h q) before) refl) after)

end_tokens : (x e : List ℕ) → WholeTokens true x → IsEnd e → WholeTokens true (x ++ e)
end_tokens x e h (inl none) = subst (λ z. WholeTokens true (x ++ z)) (sym none) (subst (WholeTokens true) (sym (append_nil x)) h)
end_tokens x e h (inr (w, gap, is)) = subst (λ z. WholeTokens true (x ++ z)) (sym is) (subst (WholeTokens true) (append_assoc x w (44 ∷ [])) (as_unended (then_punctuator 44 (then_blanks h gap) refl)))

-- an entry, and the comma after it, if there is one
pub entry_tokens : (x part : List ℕ) → WholeTokens false x → IsEntryText part → WholeTokens true (x ++ part)
entry_tokens x part h e =
    let whole : ((x ++ e.name) ++ e.value) ++ e.end ≡ x ++ part =
    append_assoc (x ++ e.name) e.value e.end ∙ append_assoc x e.name (e.value ++ e.end) ∙ ap (λ z. x ++ z) (sym e.split) in
    subst (WholeTokens true) whole (end_tokens ((x ++ e.name) ++ e.value) e.end (then_value (name_tokens x e.name h e.is_name) e.is_value) e.is_end)
