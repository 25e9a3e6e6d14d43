-- How documents go on from a front: with what is expected there; and each front begins a document.
-- A promise rests on this.
use Rattle.std.specs.Prelude.{◌≡◌, ◌⊎◌, ℕ, Bool, true, List, [], ◌∷◌, ◌++◌}
use Rattle.json5_grammar.specs.Language.Characters.{comma_sign, colon_sign, right_bracket, right_brace}
use Rattle.json5_grammar.specs.Language.Blanks.{LastBlanks}
use Rattle.json5_grammar.specs.Language.Documents.{Doc, Begins}
use Rattle.json5_grammar.specs.Faults.Fronts.{Bracket, Expects, Front, takes_value, closing, value, element, key, colon, comma, end}
use Rattle.json5_grammar.specs.Model.Collections.{IsSign, ReadsKey}
use Rattle.json5_grammar.specs.Language.Names.{IsName}
use Rattle.json5_grammar.specs.Language.Strings.{IsOpenString}
use Rattle.json5_grammar.specs.Language.Trees.{Tree}
use Rattle.json5_grammar.specs.Language.Values.{Reads}

-- y begins with what is expected where the brackets o are open, after blanks; where the end is expected, y is blanks alone
abbrev pub GoesOn : List Bracket → Expects → List ℕ → Type 0
GoesOn o value y = (t : Tree) × (r : List ℕ) × Reads y t r
GoesOn o element y = ((t : Tree) × (r : List ℕ) × Reads y t r) ⊎ ((r : List ℕ) × IsSign right_bracket y r)
GoesOn o key y = ((u : List ℕ) × (escape_free : Bool) × (r : List ℕ) × ReadsKey y u escape_free r) ⊎ ((r : List ℕ) × IsSign right_brace y r)
GoesOn o colon y = (r : List ℕ) × IsSign colon_sign y r
GoesOn [] comma y = ⊥
GoesOn (b ∷ o) comma y = ((r : List ℕ) × IsSign comma_sign y r) ⊎ ((r : List ℕ) × IsSign (closing b.kind) y r)
GoesOn o end y = LastBlanks y

-- a document that begins with a front and a character goes on, from the front, with what is expected there
abbrev pub FrontsCommit : ℕ → Type 0
FrontsCommit limit =
    (f r : List ℕ) (o : List Bracket) (a : Expects) (h : ℕ) (z : List ℕ) (t : Tree)
    → Front limit f (h ∷ r) o a → Doc limit (f ++ h ∷ z) t → GoesOn o a (h ∷ z)

-- a front begins a document, also with whole items of a string where one may begin, and of a name where a key is expected
abbrev pub FrontsContinue : ℕ → Type 0
FrontsContinue limit = (f r : List ℕ) (o : List Bracket) (a : Expects) → Front limit f r o a → Begins limit f

abbrev pub StringsContinue : ℕ → Type 0
StringsContinue limit =
    (f s r : List ℕ) (o : List Bracket) (a : Expects)
    → Front limit f (s ++ r) o a → (takes_value a ≡ true) ⊎ (a ≡ key) → IsOpenString s → Begins limit (f ++ s)

abbrev pub NamesContinue : ℕ → Type 0
NamesContinue limit = (f s r : List ℕ) (o : List Bracket) → Front limit f (s ++ r) o key → IsName s → Begins limit (f ++ s)
