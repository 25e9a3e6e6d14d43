-- A spelling that is returned in pieces.
-- A promise rests on this.
use Rattle.std.specs.Prelude.{◌≡◌, ◌<◌, ℕ, List, ◌++◌, length}

-- the spelling begins with this piece, which isn't empty, and rest follows it
pub record BeginsWithPiece (text piece rest : List ℕ) : Type 0 where
  pub parts : text ≡ piece ++ rest
  pub some : 0 < length piece
