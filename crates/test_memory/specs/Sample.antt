-- What the sample takes of an object, a field a line.
-- A promise rests on this.
use Rattle.std.specs.Prelude.{Option, codes}
use Rattle.json5.specs.Trees.{Tree}
use Rattle.json5.specs.Plans.{Plan, plan_required, plan_and}

abbrev pub sample : {A S B : Type 0} → (Tree → Option A) → (Tree → Option S) → (Tree → Option B) → Plan (Option A × (Option S × Option B)) (A × (S × B))
sample list text map =
    plan_and (plan_required (codes "a") list)
    (plan_and (plan_required (codes "s") text)
    (plan_required (codes "b") map))
