-- A fault that a character shows remains, whatever follows that character; so no document goes through it.
use Rattle.std.proofs.Common.{◌≡◌, ℕ, List, [], ◌∷◌, ◌++◌, refl, ap, sym, ◌∙◌, append_assoc, subst, Option, Some}
use Rattle.json5_grammar.specs.Faults.Codes.{ErrorCode, by_char}
use Rattle.json5_grammar.specs.Faults.Blames.{StandsIn, Shows}
use Rattle.json5_grammar.specs.Faults.Tokens.{CommentFault, no_comment, WordFault, word_differs}
use Rattle.json5_grammar.specs.Language.Documents.{Begins}
use Rattle.json5_grammar.specs.Faults.Fronts.{Bracket, Expects}
use Rattle.json5_grammar.specs.Faults.{lifted, FaultAt, in_comment, no_value, nested_too_deep, no_comma, no_key, no_colon, trailing, in_word, in_number, in_a_string, in_a_name, FaultWhere, Fault, fault}
use Rattle.json5_grammar.proofs.CommonLemmas.{SameHead}
use Rattle.json5_grammar.proofs.NumberFaultsRemain.{whatever_follows}
use Rattle.json5_grammar.proofs.TextFaultsRemain.{string_follows, name_follows}
use Rattle.json5_grammar.proofs.FrontsContinue.{front_same}
use Rattle.json5_grammar.proofs.DocumentOrFault.{no_fault}
use Rattle.json5_grammar.proofs.FaultsShown.{row_shows}
use Rattle.json5_grammar.proofs.FaultParts.{in_front_of, row_in}

-- ---- whatever follows

-- texts that begin with the same text, not empty
same_snoc : (v : List ℕ) (c : ℕ) (q z : List ℕ) → SameHead ((v ++ c ∷ []) ++ q) ((v ++ c ∷ []) ++ z)
same_snoc [] c q z = refl
same_snoc (d ∷ v) c q z = refl

-- of a text that begins with the part the first character stays
same_part : {y b p : List ℕ} {pl : Option (List ℕ)} (z : List ℕ) → StandsIn y b p by_char → Shows b p pl → SameHead y ((b ++ p) ++ z)
same_part {y = y} {b = b} {p = p} z (q, e, k) h =
    let last : b ++ p ≡ (b ++ h.front) ++ h.char ∷ [] = ap (λ w. b ++ w) h.ends ∙ sym (append_assoc b h.front (h.char ∷ [])) in
    subst (λ w. SameHead w ((b ++ p) ++ z)) (sym e) (subst (λ w. SameHead (w ++ q) (w ++ z)) (sym last) (same_snoc (b ++ h.front) h.char q z))

-- by the kinds of faults
comment_follows : {x p : List ℕ} {e : Option ErrorCode} {pl : Option (List ℕ)} (z : List ℕ) → CommentFault x e pl p by_char
    → CommentFault (p ++ z) e pl p by_char
comment_follows z (no_comment c r h) = no_comment c z h

word_follows : {x p : List ℕ} {e : Option ErrorCode} {pl : Option (List ℕ)} (z : List ℕ) → WordFault x e pl p by_char
    → WordFault (p ++ z) e pl p by_char
word_follows z (word_differs r w p {bad = bad} d c k i n h) =
    subst (λ q. WordFault q (Some bad) (Some p) (p ++ c ∷ []) by_char) (sym (append_assoc p (c ∷ []) z)) (word_differs z w p d c k i n h)

-- a row of the table
row_follows : {limit : ℕ} {o : List Bracket} {a : Expects} {x b p : List ℕ} {e : Option ErrorCode} {pl : Option (List ℕ)} (z : List ℕ)
    → FaultAt limit o a x e pl b p by_char → FaultAt limit o a ((b ++ p) ++ z) e pl b p by_char
row_follows z (in_comment c) = in_comment (comment_follows z c)
row_follows z (no_value t s b n) = no_value t s b n
row_follows z (nested_too_deep t b l) = nested_too_deep t b l
row_follows z (no_comma k i s n) = no_comma k i s n
row_follows z (no_key s n) = no_key s n
row_follows z (no_colon s n) = no_colon s n
row_follows z (trailing s) = trailing s
row_follows z (in_word t w) = in_word t (word_follows z w)
row_follows z (in_number t w) = in_number t (whatever_follows z w)
row_follows z (in_a_string t w) = in_a_string t (string_follows z w)
row_follows z (in_a_name w) = in_a_name (name_follows z w)

-- a fault that a character shows remains, whatever follows that character
pub fault_follows : {Where : Expects → Type 0} {limit : ℕ} {x b p : List ℕ} {e : Option ErrorCode} {pl : Option (List ℕ)} (z : List ℕ)
    → FaultWhere Where limit x e pl b p by_char → FaultWhere Where limit ((b ++ p) ++ z) e pl b p by_char
fault_follows {Where = Where} {limit = limit} z (fault {f = f} {b = b} {p = p} {o = o} {code = code} {place = place} h w t) =
    subst (λ q. FaultWhere Where limit q code (lifted f o place) (f ++ b) p by_char) (in_front_of f b p z)
    (fault (front_same ((b ++ p) ++ z) (same_part z (row_in t) (row_shows t)) h) w (row_follows z t))

-- through the character that shows the fault nothing begins a document
pub hopeless : {limit : ℕ} {x b p : List ℕ} {e : Option ErrorCode} {pl : Option (List ℕ)} → Fault limit x e pl b p by_char → Begins limit (b ++ p) → ⊥
hopeless f d = no_fault d.tree d.document (fault_follows d.more f)
