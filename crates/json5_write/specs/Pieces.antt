-- What a writer does with a piece.
-- A promise rests on this.
use Rattle.std.specs.Prelude.{◌≡◌, ℕ, List, [], ◌∷◌, ◌++◌, Option, Result, Ok, Err}
use Rattle.json5_grammar.specs.Language.Characters.{double_quote}
use Rattle.std.specs.Io.KnownBytes.{Appends}

-- a prefix of the bytes was appended
abbrev pub AppendsFront : Option (List ℕ) → Option (List ℕ) → List ℕ → Type 0
AppendsFront old new bytes = (front : List ℕ) × (rest : List ℕ) × (bytes ≡ front ++ rest) × Appends old new front

-- all bytes were appended, or a prefix of them
abbrev pub Pushes : {A E : Type 0} → Option (List ℕ) → Option (List ℕ) → List ℕ → Result A E → Type 0
Pushes old new bytes (Ok x) = Appends old new bytes
Pushes old new bytes (Err e) = AppendsFront old new bytes

-- the text between double quotes
abbrev pub between_quotes : List ℕ → List ℕ
between_quotes text = double_quote ∷ text ++ double_quote ∷ []
