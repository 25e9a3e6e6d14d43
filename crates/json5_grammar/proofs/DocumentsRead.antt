-- A whole input: a document is read as its tree, and an input of which a part is refused is refused.
use Rattle.std.proofs.Common.{◌≡◌, ℕ, ◌≤◌, List, [], ◌∷◌, ◌++◌, refl, ap, sym, ◌∙◌, append_assoc, subst, Option, Some}
use Rattle.json5_grammar.specs.Language.Blanks.{Gap, Solid}
use Rattle.json5_grammar.specs.Faults.Codes.{after_text}
use Rattle.json5_grammar.specs.declared.error_code.ErrorCode.{ErrorCode}
use Rattle.json5_grammar.specs.declared.error_code.ErrorCode.TheVariants.{TrailingCharacters}
use Rattle.json5_grammar.specs.Language.Documents.{Doc}
use Rattle.json5_grammar.specs.Model.Reading.{Read, here, got, and_then}
use Rattle.json5_grammar.specs.Model.ReadBlanks.{skip, between}
use Rattle.json5_grammar.specs.Model.ReadValues.{read, at_end, document}
use Rattle.json5_grammar.specs.Language.Trees.{Tree, depth}
use Rattle.json5_grammar.specs.Language.Values.{Reads}
use Rattle.json5_grammar.proofs.BlanksRead.{skip_last}
use Rattle.json5_grammar.proofs.BlanksSound.{gap_read}
use Rattle.json5_grammar.proofs.FoundPlaces.{then_then}
use Rattle.json5_grammar.proofs.Refusals.{Refuses, refuses_after}
use Rattle.json5_grammar.proofs.OneTree.{document_phrase, phrase_reader, phrase_complete}

-- blanks, and then the end
abbrev pub to_end : Tree → List ℕ → Read Tree
to_end t z = and_then (skip between z) (λ v r. at_end t r)

-- a value, and then the end
abbrev from_value : ℕ → List ℕ → Read Tree
from_value limit y = and_then (read limit y) to_end

from_blanks : (limit : ℕ) (x : List ℕ) → document limit x ≡ and_then (skip between x) (λ u y. from_value limit y)
unfolding document
from_blanks limit x = refl

-- a phrase, and then the end
phrase_to_end : (limit : ℕ) (x : List ℕ) → document limit x ≡ and_then (phrase_reader limit x) to_end
phrase_to_end limit x = from_blanks limit x ∙ sym (then_then (skip between x) (λ u y. read limit y) to_end)

after_phrase : (limit : ℕ) (x r : List ℕ) (t : Tree) → Reads x t r → depth t ≤ limit → document limit x ≡ to_end t r
after_phrase limit x r t p low = phrase_to_end limit x ∙ ap (λ m. and_then m to_end) (phrase_complete limit x r t p low)

-- a document is read whole, as its tree
pub document_complete : (limit : ℕ) (x : List ℕ) (t : Tree) → Doc limit x t → document limit x ≡ got t []
document_complete limit x t d =
    let (r, reads, last, low) = document_phrase limit x t d in
    after_phrase limit x r t reads low ∙ ap (λ m. and_then m (λ v r. at_end t r)) (skip_last last)

-- ---- what is refused

-- a comment before the value
pub blanks_refused : (limit : ℕ) (x : List ℕ) (e : Option ErrorCode) (place : Option (List ℕ)) → Refuses (skip between x) x e place
    → Refuses (document limit x) x e place
blanks_refused limit x e place (p, is, there) = (p, from_blanks limit x ∙ ap (λ m. and_then m (λ u y. from_value limit y)) is, there)

-- the value
pub value_refused : {w y : List ℕ} (limit : ℕ) (e : Option ErrorCode) (place : Option (List ℕ)) → Gap w y → Solid y → Refuses (read limit y) y e place
    → Refuses (document limit (w ++ y)) (w ++ y) e (after_text w place)
value_refused {w = w} {y = y} limit e place g s k =
    refuses_after w y (read limit y) (document limit (w ++ y)) e place
    (λ p is. from_blanks limit (w ++ y) ∙ ap (λ m. and_then m (λ u z. from_value limit z)) (gap_read g s) ∙ ap (λ m. and_then m to_end) is) k

-- a comment after the value
pub comment_refused : (t : Tree) (x : List ℕ) (e : Option ErrorCode) (place : Option (List ℕ)) → Refuses (skip between x) x e place
    → Refuses (to_end t x) x e place
comment_refused t x e place (p, is, there) = (p, ap (λ m. and_then m (λ v r. at_end t r)) is, there)

-- another character after the value
pub character_refused : {w : List ℕ} (t : Tree) (c : ℕ) (r : List ℕ) → Gap w (c ∷ r) → Solid (c ∷ r)
    → Refuses (to_end t (w ++ c ∷ r)) (w ++ c ∷ r) (Some TrailingCharacters) (Some (w ++ []))
character_refused {w = w} t c r g s =
    refuses_after w (c ∷ r) (at_end t (c ∷ r)) (to_end t (w ++ c ∷ r)) (Some TrailingCharacters) (Some [])
    (λ p is. ap (λ m. and_then m (λ v q. at_end t q)) (gap_read g s) ∙ is) (here (c ∷ r), refl, refl)

-- what comes after the value
pub rest_refused : {x r : List ℕ} {t : Tree} (limit : ℕ) (e : Option ErrorCode) (place : Option (List ℕ)) (p : Reads x t r) → depth t ≤ limit
    → Refuses (to_end t r) r e place → Refuses (document limit x) x e (after_text (p.front ++ p.phrase) place)
rest_refused {x = x} {r = r} {t = t} limit e place p low k =
    let split : x ≡ (p.front ++ p.phrase) ++ r = p.split ∙ sym (append_assoc p.front p.phrase r) in
    subst (λ z. Refuses (document limit x) z e (after_text (p.front ++ p.phrase) place)) (sym split)
    (refuses_after (p.front ++ p.phrase) r (to_end t r) (document limit x) e place (λ q is. after_phrase limit x r t p low ∙ is) k)
