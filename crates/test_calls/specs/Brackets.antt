-- What values within brackets convert to.
-- A promise rests on this.
use Rattle.std.specs.Prelude.{Option}
use Rattle.json5_grammar.specs.Language.Trees.{Tree}
use Rattle.json5_grammar.specs.Model.Collections.{array_of}
use Rattle.json5_de.specs.ConvertLists.{last_of}

-- an array of one element
abbrev pub within : {C : Type 0} → (Tree → Option C) → Tree → Option C
within f = array_of (last_of f)

abbrev pub within_four : {C : Type 0} → (Tree → Option C) → Tree → Option C
within_four f = within (within (within (within f)))
