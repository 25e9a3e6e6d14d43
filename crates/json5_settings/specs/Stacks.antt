-- What documents mean that are laid over one another.
-- A promise rests on this.
use Rattle.std.specs.Prelude.{◌≡◌, ◌∷◌, [], ⊤, ℕ, List}
use Rattle.std.specs.Str.{chars}
use Rattle.json5_grammar.specs.Language.Documents.{Doc, max_depth}
use Rattle.json5_grammar.specs.Language.Trees.{Tree}
use Rattle.json5_read.specs.TreeMeanings.{datum_of}
use Rattle.json5_styles.specs.LaidBack.{ReadsAs}
use Rattle.json5_types.specs.ValueChanges.{merged}
use Rattle.json5_types.specs.ValueMeanings.{Datum, object, no_field}

-- a name and a text, in bytes
abbrev pub Layer : Type 0
Layer = List ℕ × List ℕ

-- the text is a document within the limit, and this is what it means
abbrev pub MeansWithin : ℕ → List ℕ → Datum → Type 0
MeansWithin limit text x = (t : Tree) × Doc limit text t × (x ≡ datum_of t)

abbrev pub Means : List ℕ → Datum → Type 0
Means text x = MeansWithin max_depth text x

abbrev pub IsDocument : List ℕ → Type 0
IsDocument text = (t : Tree) × Doc max_depth (chars text) t

abbrev pub AreDocuments : List Layer → Type 0
AreDocuments [] = ⊤
AreDocuments (layer ∷ layers) = IsDocument layer.1 × AreDocuments layers

-- each document is merged into what those before it made of the first value
abbrev pub StacksOnto : Datum → List Layer → Datum → Type 0
StacksOnto old [] new = new ≡ old
StacksOnto old (layer ∷ layers) new = (x : Datum) × Means (chars layer.1) x × StacksOnto (merged old x) layers new

-- The documents make this together, the later over the earlier.
abbrev pub Stacks : List Layer → Datum → Type 0
Stacks layers x = StacksOnto (object no_field) layers x

-- The text reads as what the documents make together.
abbrev pub IsTextOfAll : List Layer → List ℕ → Type 0
IsTextOfAll layers text = (x : Datum) × Stacks layers x × ReadsAs max_depth text x
