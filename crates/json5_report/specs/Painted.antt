-- Texts in colours, by the codes of terminals (ECMA-48, 'select graphic rendition').
-- A promise rests on this.
use Rattle.std.specs.Prelude.{◌++◌, ◌∷◌, ℕ, List, codes, decimal}

unfoldable pub painted_text : ℕ → List ℕ → List ℕ
painted_text colour text = (27 ∷ codes "[") ++ decimal colour ++ codes "m" ++ text ++ (27 ∷ codes "[0m")
