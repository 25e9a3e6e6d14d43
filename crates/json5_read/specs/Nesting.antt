-- The brackets that are open around a value, and what they make of what is read within them.
-- Private.
use Rattle.std.specs.Prelude.{◌≡◌, ℕ, ◌-◌, ◌<◌, ◌≤◌, List, [], ◌∷◌, length}
use Rattle.json5_grammar.specs.Model.Reading.{Read, and_then, placed}
use Rattle.json5_tokens.specs.Cursor.{Cursor}
use Rattle.json5_read.specs.Offsets.{CountsTo}
use Rattle.json5_read.specs.ModelSteps.{IsInside}

-- these are open, the outermost first; at most d brackets may be open at once; and what m reads makes w of the whole
abbrev pub Nested : {F D : Type 0} → (F → ℕ) → (F → ℕ → D → List ℕ → Read D) → List ℕ → ℕ → List F → Read D → Read D → Type 0
Nested start after input d [] m w = w ≡ m
Nested {F = F} {D = D} start after input d (f ∷ fs) m w = (q : List ℕ) × (v : Read D) × CountsTo input (start f) q × Nested {F = F} {D = D} start after input (d - 1) fs m v × (w ≡ placed q (and_then v (after f (d - 1))))

-- within these what is read next makes w of the whole
pub record Within {F D : Type 0} (start : F → ℕ) (after : F → ℕ → D → List ℕ → Read D) (room : ℕ) (w : Read D) (fs : List F) (m : Read D) (now : Cursor) : Type 0 where
  pub ready : IsInside now
  pub fits : length fs ≤ room
  pub nested : Nested start after now.input room fs m w

-- the same within one more, which was opened before q
pub record WithinInner {F D : Type 0} (start : F → ℕ) (after : F → ℕ → D → List ℕ → Read D) (room : ℕ) (w : Read D) (fs : List F) (at : ℕ) (m : Read D) (q : List ℕ) (now : Cursor) : Type 0 where
  pub ready : IsInside now
  pub fits : length fs < room
  pub counted : CountsTo now.input at q
  pub nested : Nested start after now.input room fs (placed q m) w
