-- What is known of a value that a type sends.
-- A promise rests on this.
use Rattle.std.specs.Prelude.{◌≡◌, ℕ, List}
use Rattle.std.specs.Str.{chars}
use Rattle.json5_grammar.specs.Language.Documents.{Doc, max_depth}
use Rattle.json5_grammar.specs.Language.Trees.{Tree}
use Rattle.json5_types.specs.ValueMeanings.{Datum}
use Rattle.json5_read.specs.TreeMeanings.{datum_of}
use Rattle.json5_serde_write.specs.WrittenTexts.{IsWrittenWithin}

-- it is what the written text of some tree means
pub record IsOfText (x : Datum) : Type 0 where
  pub bytes : List ℕ
  pub written : IsWrittenWithin max_depth bytes
  pub tree : Tree
  pub document : Doc max_depth (chars bytes) tree
  pub same : datum_of tree ≡ x
