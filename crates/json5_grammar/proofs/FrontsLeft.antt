-- What is left to read where a front ends: in its innermost bracket, and then in those around it.
use Rattle.std.proofs.Common.{◌≡◌, ℕ, ◌-◌, Bool, true, false, cond, List, [], ◌∷◌, ◌++◌, length, refl, ap, sym, ◌∙◌}
use Rattle.std.specs.Prelude.{drop}
use Rattle.json5_grammar.specs.Language.Blanks.{Gap}
use Rattle.json5_grammar.specs.Language.Trees.{Tree}
use Rattle.json5_grammar.specs.Faults.Fronts.{BracketKind, of_array, of_object, Bracket, Expects, after, member_of, Front, start, after_value, after_bracket, after_comma, after_key, after_colon, value, element, key, colon, comma, end}
use Rattle.json5_grammar.specs.Model.Reading.{Read, got, bad, and_then, placed}
use Rattle.json5_grammar.specs.Model.ReadBlanks.{skip, between}
use Rattle.json5_grammar.specs.Model.ReadValues.{colon_at, read, at_end, document}
use Rattle.json5_grammar.specs.Model.ReadSteps.{forget, colon_after, entry_head, entry_at, comma_at, separator, next_value, rest_of_bracket}
use Rattle.json5_grammar.proofs.BlanksRead.{skip_gap}
use Rattle.json5_grammar.proofs.OneTree.{phrase_reader}
use Rattle.json5_grammar.proofs.ValueSteps.{turn, rest_step}

-- ---- what is left to read

-- what is made of the text after the value; blanks change nothing
pub record Finish : Type 0 where
  pub at : List ℕ → Read (Unit {0})
  pub gap : (w r : List ℕ) → Gap w r → at (w ++ r) ≡ at r

-- how deep a value may be where these are open
abbrev pub room : ℕ → List Bracket → ℕ
room limit o = limit - length o

-- after a value
abbrev pub rest_after : Finish → ℕ → List Bracket → List ℕ → Read (Unit {0})
rest_after finish limit [] y = finish.at y
rest_after finish limit (b ∷ o) y = rest_of_bracket b.kind true (room limit (b ∷ o)) y

-- after an opening bracket or a comma
abbrev pub members_at : Finish → ℕ → List Bracket → List ℕ → Read (Unit {0})
members_at finish limit [] y = got tt y
members_at finish limit (b ∷ o) y = rest_of_bracket b.kind false (room limit (b ∷ o)) y

-- the same, with what is read before it
abbrev pub rest_then : Finish → ℕ → List Bracket → Read (Unit {0}) → Read (Unit {0})
rest_then finish limit o m = and_then m (λ u y. rest_after finish limit o y)

-- a value, and what is left after it
abbrev pub value_then : Finish → ℕ → List Bracket → List ℕ → Read (Unit {0})
value_then finish limit o y = rest_then finish limit o (forget (read (room limit o) y))

-- what is left of the innermost bracket, or of the document
abbrev pub left_at : Finish → ℕ → List Bracket → Expects → List ℕ → Read (Unit {0})
left_at finish limit o value y = and_then (skip between y) (λ u z. value_then finish limit o z)
left_at finish limit o element y = members_at finish limit o y
left_at finish limit o key y = members_at finish limit o y
left_at finish limit o colon y = and_then (colon_after y) (λ u z. value_then finish limit o z)
left_at finish limit o comma y = rest_after finish limit o y
left_at finish limit o end y = rest_after finish limit o y

-- the same by what the blanks before it gave: a value, and a colon and a value
abbrev pub gap_then : Finish → ℕ → List Bracket → Read (Unit {0}) → Read (Unit {0})
gap_then finish limit o m = and_then m (λ u z. value_then finish limit o z)

abbrev pub colon_then : Finish → ℕ → List Bracket → Read (Unit {0}) → Read (Unit {0})
colon_then finish limit o m = and_then (and_then m (λ u y. and_then (colon_at y) (λ v z. skip between z))) (λ u z. value_then finish limit o z)

-- an element, a pair or the closing bracket; a comma or the closing bracket
abbrev pub entry_turn : BracketKind → ℕ → Read (Unit {0}) → Read (Unit {0})
entry_turn k d m = and_then (and_then m (λ u y. entry_head k y)) (turn k d)

abbrev pub comma_turn : BracketKind → ℕ → Read (Unit {0}) → Read (Unit {0})
comma_turn k d m = and_then (and_then (and_then m (λ u y. comma_at k y)) (λ more y. cond more (entry_at k y) (got false y))) (turn k d)

-- what that makes of the document x
abbrev pub whole_of : Finish → ℕ → List ℕ → List Bracket → Read (Unit {0}) → Read (Unit {0})
whole_of finish limit x [] m = m
whole_of finish limit x (b ∷ o) m = whole_of finish limit x o (rest_then finish limit o (placed (drop (length b.before) x) m))

-- ---- blanks change nothing

-- before an element or a pair, a comma, the next value and the rest of a bracket
gap_member : (k : BracketKind) (w r : List ℕ) → Gap w r → entry_at k (w ++ r) ≡ entry_at k r
unfolding entry_at
gap_member k w r g = ap (λ m. and_then m (λ u y. entry_head k y)) (skip_gap g)

gap_separator : (k : BracketKind) (w r : List ℕ) → Gap w r → separator k (w ++ r) ≡ separator k r
unfolding separator
gap_separator k w r g = ap (λ m. and_then m (λ u y. comma_at k y)) (skip_gap g)

gap_next : (k : BracketKind) (comma_due : Bool) (w r : List ℕ) → Gap w r → next_value k comma_due (w ++ r) ≡ next_value k comma_due r
gap_next k false w r g = gap_member k w r g
gap_next k true w r g = ap (λ m. and_then m (λ more y. cond more (entry_at k y) (got false y))) (gap_separator k w r g)

pub gap_rest : (k : BracketKind) (comma_due : Bool) (d : ℕ) (w r : List ℕ) → Gap w r → rest_of_bracket k comma_due d (w ++ r) ≡ rest_of_bracket k comma_due d r
gap_rest k comma_due d w r g = rest_step k comma_due d (w ++ r) ∙ ap (λ m. and_then m (turn k d)) (gap_next k comma_due w r g) ∙ sym (rest_step k comma_due d r)

-- after a value, and where an element or a pair may begin
pub gap_after : (finish : Finish) (limit : ℕ) (o : List Bracket) (w r : List ℕ) → Gap w r
    → rest_after finish limit o (w ++ r) ≡ rest_after finish limit o r
gap_after finish limit [] w r g = finish.gap w r g
gap_after finish limit (b ∷ o) w r g = gap_rest b.kind true (room limit (b ∷ o)) w r g

-- ---- what is expected fits the bracket

-- arrays expect elements, objects keys and colons; the end comes outside of brackets
abbrev pub Fits : List Bracket → Expects → Type 0
Fits o value = Unit {0}
Fits [] element = ⊥
Fits (b ∷ o) element = b.kind ≡ of_array
Fits [] key = ⊥
Fits (b ∷ o) key = b.kind ≡ of_object
Fits [] colon = ⊥
Fits (b ∷ o) colon = b.kind ≡ of_object
Fits [] comma = ⊥
Fits (b ∷ o) comma = Unit {0}
Fits [] end = Unit {0}
Fits (b ∷ o) end = ⊥

fits_after : (o : List Bracket) → Fits o (after o)
fits_after [] = tt
fits_after (b ∷ o) = tt

fits_member : (b : Bracket) (o : List Bracket) (k : BracketKind) → b.kind ≡ k → Fits (b ∷ o) (member_of k)
fits_member b o of_array e = e
fits_member b o of_object e = e

fits_colon : (o : List Bracket) → Fits o key → Fits o colon
fits_colon [] h = h
fits_colon (b ∷ o) h = h

-- what is expected at a front fits its brackets
pub front_fits : {limit : ℕ} {f r : List ℕ} {o : List Bracket} {a : Expects} → Front limit f r o a → Fits o a
front_fits (start g) = tt
front_fits (after_value {o = o} f t v st l g) = fits_after o
front_fits (after_bracket {g = g} {o = o} k f t l w) = fits_member (record { kind = k; before = g }) o k refl
front_fits (after_comma {b = b} {o = o} f g) = fits_member b o b.kind refl
front_fits (after_key {o = o} f k g) = fits_colon o (front_fits f)
front_fits (after_colon f g) = tt

-- ---- the whole text

-- a value after blanks, and what is made of the rest
abbrev pub phrase_then : Finish → ℕ → List ℕ → Read (Unit {0})
phrase_then finish limit x = and_then (forget (phrase_reader limit x)) (λ u z. finish.at z)

-- what reading makes of blanks and the end, the value forgotten
abbrev pub ending_at : List ℕ → Read (Unit {0})
ending_at y = and_then (skip between y) (λ u r. forget (at_end Tree.null r))

pub ending_gap : (w r : List ℕ) → Gap w r → ending_at (w ++ r) ≡ ending_at r
ending_gap w r g = ap (λ m. and_then m (λ u r. forget (at_end Tree.null r))) (skip_gap g)

-- blanks, and the end
abbrev pub ending : Finish
ending = record { at = ending_at; gap = ending_gap }

-- whatever follows
abbrev pub anything : Finish
anything = record { at = λ y. got tt []; gap = λ w r g. refl }

-- reading a document is reading a value, and then the end
pub document_ends : (limit : ℕ) (x : List ℕ) → forget (document limit x) ≡ phrase_then ending limit x
unfolding document
document_ends limit x = at_first (skip between x)
  where
    at_last : (t : Tree) (m : Read (Unit {0})) → forget (and_then m (λ v r. at_end t r)) ≡ and_then m (λ u r. forget (at_end Tree.null r))
    at_last t (got u []) = refl
    at_last t (got u (c ∷ r)) = refl
    at_last t (bad e p) = refl

    at_value : (m : Read Tree) → forget (and_then m (λ t z. and_then (skip between z) (λ v r. at_end t r))) ≡ and_then (forget m) (λ u z. ending_at z)
    at_value (got t z) = at_last t (skip between z)
    at_value (bad e p) = refl

    at_first : (m : Read (Unit {0}))
        → forget (and_then m (λ u y. and_then (read limit y) (λ t z. and_then (skip between z) (λ v r. at_end t r))))
        ≡ and_then (forget (and_then m (λ u y. read limit y))) (λ u z. ending_at z)
    at_first (got u y) = at_value (read limit y)
    at_first (bad e p) = refl
