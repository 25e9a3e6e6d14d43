-- An input has at most one tree, and at most one front that is a value.
use Rattle.std.proofs.Common.{◌≡◌, ℕ, ◌≤◌, max, List, ◌++◌, ap, sym, ◌∙◌, arith}
use Rattle.json5_grammar.specs.Language.Blanks.{LastBlanks}
use Rattle.json5_grammar.specs.Language.Trees.{Tree, depth}
use Rattle.json5_grammar.specs.Language.Values.{Val, Stops, Reads}
use Rattle.json5_grammar.specs.Language.Documents.{Doc}
use Rattle.json5_grammar.specs.Model.Reading.{Read, got, and_then}
use Rattle.json5_grammar.specs.Model.ReadBlanks.{skip, between}
use Rattle.json5_grammar.specs.Model.ReadValues.{read}
use Rattle.json5_grammar.proofs.Refusals.{got_same, one_answer}
use Rattle.json5_grammar.proofs.BlanksRead.{skip_blanks}
use Rattle.json5_grammar.proofs.ValueHeads.{val_head, skip_value, stops_last}
use Rattle.json5_grammar.proofs.ValuesRead.{read_complete}

-- one value at the front
pub one_front : (s u r q : List ℕ) (t v : Tree) → Val s t → Val u v → Stops s r → Stops u q → s ++ r ≡ u ++ q → (s ≡ u) × (t ≡ v) × (r ≡ q)
one_front s u r q t v a b g h e =
    let d : ℕ = max (depth t) (depth v) in
    one_answer (read d) s r u q t v (read_complete a r g d (omega arith)) (read_complete b q h d (omega arith)) e

-- a phrase, blanks before it passed over
abbrev pub phrase_reader : ℕ → List ℕ → Read Tree
phrase_reader d x = and_then (skip between x) (λ u y. read d y)

-- a phrase is read
pub phrase_complete : (d : ℕ) (x r : List ℕ) (t : Tree) → Reads x t r → depth t ≤ d → phrase_reader d x ≡ got t r
phrase_complete d x r t p l =
    ap (phrase_reader d) p.split
    ∙ rw (skip_blanks (p.phrase ++ r) p.blank, skip_value r (val_head p.value)) (read_complete p.value r p.stops d l)

-- one phrase at the front
pub one_phrase : (x r q : List ℕ) (t u : Tree) → Reads x t r → Reads x u q → (t ≡ u) × (r ≡ q)
one_phrase x r q t u a b =
    let d : ℕ = max (depth t) (depth u) in
    got_same t u r q (sym (phrase_complete d x r t a (omega arith)) ∙ phrase_complete d x q u b (omega arith))

-- a document is a phrase with blanks after it
pub document_phrase : (limit : ℕ) (x : List ℕ) (t : Tree) → Doc limit x t → (r : List ℕ) × Reads x t r × LastBlanks r × (depth t ≤ limit)
document_phrase limit x t d = (d.after, record { front = d.before; phrase = d.text; split = d.whole; blank = d.blank; value = d.value; stops = stops_last d.text d.last }, d.last, d.shallow)

-- and such a phrase is a document
pub phrase_document : (limit : ℕ) (x r : List ℕ) (t : Tree) → Reads x t r → LastBlanks r → depth t ≤ limit → Doc limit x t
phrase_document limit x r t p l s = record { before = p.front; text = p.phrase; after = r; whole = p.split; blank = p.blank; value = p.value; last = l; shallow = s }

-- one tree, whatever the limits
pub one_tree : (limit other : ℕ) (x : List ℕ) (t u : Tree) → Doc limit x t → Doc other x u → t ≡ u
one_tree limit other x t u d e =
    let a = document_phrase limit x t d in
    let b = document_phrase other x u e in
    (one_phrase x a.0 b.0 t u a.1 b.1).0
