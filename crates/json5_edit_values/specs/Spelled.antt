-- The tree of a value's text. JSON has escapes that JSON5 doesn't need, as that of a tab: then a string isn't escape-free.
-- A promise rests on this.
use Rattle.std.specs.Prelude.{◌≡◌, ℕ, List}
use Rattle.std.specs.Str.{chars}
use Rattle.json5_grammar.specs.Language.Trees.{Tree}
use Rattle.json5_grammar.specs.Language.Values.{Val}
use Rattle.json5_lexemes.specs.Plain.{IsPlain}
use Rattle.json5_write.specs.EscapeFreeMarks.{marks, unmarked}
use Rattle.json5_write.specs.WrittenTrees.{Written}

-- u is the value's tree; with the marks of what json5 writes, unless the text into which it goes is plain
abbrev pub IsTreeOf : Written → List ℕ → Tree → Type 0
IsTreeOf t text u = (unmarked u ≡ t) × ((IsPlain (chars text) → ⊥) → u ≡ marks t)

-- x spells the value's tree
abbrev pub Spells : Written → List ℕ → List ℕ → Type 0
Spells t text x = (u : Tree) × Val x u × IsTreeOf t text u

-- ---- private clauses alone cite these

-- x spells a tree that is t but for the marks
abbrev pub MeansAlike : Tree → List ℕ → Type 0
MeansAlike t x = (u : Tree) × Val x u × (unmarked u ≡ unmarked t)

-- and t itself, unless the text is plain
abbrev pub SpellsAlike : Tree → List ℕ → List ℕ → Type 0
SpellsAlike t text x = (u : Tree) × Val x u × (unmarked u ≡ unmarked t) × ((IsPlain (chars text) → ⊥) → u ≡ t)
