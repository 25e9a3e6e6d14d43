-- What it means that the text of a value reads back.
-- A promise rests on this.
use Rattle.std.specs.Prelude.{◌≡◌, ℕ, List, ⊤}
use Rattle.json5_grammar.specs.Language.Documents.{Doc}
use Rattle.json5_grammar.specs.Language.Trees.{Tree}
use Rattle.json5_grammar.specs.Written.NumberText.{IsNumber}
use Rattle.json5_types.specs.ValueMeanings.{Datum, number, array, object, Items, no_item, item, Fields, no_field, field}
use Rattle.json5_read.specs.TreeMeanings.{datum_of}

-- the text is a document within the limit, and means this
pub record ReadsAs (limit : ℕ) (text : List ℕ) (x : Datum) : Type 0 where
  pub tree : Tree
  pub document : Doc limit text tree
  pub same : datum_of tree ≡ x

-- each number is a whole one in range or a decimal in normal form, as all numbers of a `Value` are
abbrev mutual
  pub HasNumbers : Datum → Type 0
  HasNumbers (number n) = IsNumber n
  HasNumbers (array xs) = ItemsHaveNumbers xs
  HasNumbers (object fs) = FieldsHaveNumbers fs
  HasNumbers _ = ⊤

  pub ItemsHaveNumbers : Items → Type 0
  ItemsHaveNumbers no_item = ⊤
  ItemsHaveNumbers (item x xs) = HasNumbers x × ItemsHaveNumbers xs

  pub FieldsHaveNumbers : Fields → Type 0
  FieldsHaveNumbers no_field = ⊤
  FieldsHaveNumbers (field u x fs) = HasNumbers x × FieldsHaveNumbers fs
