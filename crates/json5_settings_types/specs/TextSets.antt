-- Sets of texts.
-- A promise rests on this.
use Rattle.std.specs.Prelude.{◌≡◌, ℕ, Bool, List, Option, Some, String}
use Rattle.std.specs.declared.alloc.Global.{Global}
use Rattle.std.specs.Str.{bytes_eq}
use Rattle.json5_grammar.specs.Language.Trees.{Tree}
use Rattle.json5_grammar.specs.Model.Collections.{array_of, contents}
use Rattle.json5_de.specs.Convert.{text_of}
use Rattle.json5_de.specs.ConvertLists.{if_some}
use Rattle.json5_ser.specs.EscapeFreeMarks.{marks}
use Rattle.json5_ser.specs.WrittenTrees.{Written, array, elements_of}
use Rattle.json5_settings_types.specs.Twins.{is_like_one, texts_in}

-- it is one of the texts
abbrev pub has_text : List (String Global) → List ℕ → Bool
has_text keys u = is_like_one bytes_eq (texts_in keys) u

-- which texts a list of strings has
abbrev pub set_of : Tree → Option (List ℕ → Bool)
set_of t = if_some (λ us u. is_like_one bytes_eq us u) (array_of (contents text_of) t)

-- these are the texts that the list has
abbrev pub IsSetOf : List (String Global) → List (String Global) → Type 0
IsSetOf keys texts = (u : List ℕ) → has_text keys u ≡ has_text texts u

-- what is written of the texts of a set is read as the same set
abbrev pub SetsReadBack : (String Global → Written) → Type 0
SetsReadBack tree = (keys : List (String Global)) → set_of (marks (array (elements_of tree keys))) ≡ Some (has_text keys)
