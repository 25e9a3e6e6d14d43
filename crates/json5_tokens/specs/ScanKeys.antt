-- How a key is read where the input may have ended.
-- Private.
use Rattle.std.specs.Prelude.{Bool, ℕ, List, [], ◌∷◌}
use Rattle.json5_grammar.specs.Model.Reading.{Read}
use Rattle.json5_grammar.specs.Model.ReadTexts.{identifier, key}

-- a key, where one is expected
unfoldable pub key_ahead : List ℕ → Read (List ℕ × Bool)
key_ahead [] = identifier []
key_ahead (c ∷ r) = key (c ∷ r)
