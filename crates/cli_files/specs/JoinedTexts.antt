-- The concatenation of several strings.
-- A promise rests on this.
use Rattle.std.specs.Prelude.{ℕ, List, [], ◌∷◌, ◌++◌}
use Rattle.std.specs.Borrow.{Bor}

-- the strings, one after the other
abbrev pub joined_texts : List (Bor (List ℕ)) → List ℕ
joined_texts [] = []
joined_texts (t ∷ ts) = t.now ++ joined_texts ts
