-- A value by its name is the one at the name's index.
use Rattle.std.proofs.Common.{◌≡◌, ◌<◌, ℕ, zero, suc, List, [], ◌∷◌, length, refl, sym, ap, Option, Some, None, arith}
use Rattle.std.specs.Prelude.{slice_index_or}
use Rattle.json5_de.specs.Refinement.{if_more}
use Rattle.json5_fields.specs.Named.{value_at}

pub value_there : {T : Type 0} (values : List T) (k : ℕ) (v : T) → k < length values → v ≡ slice_index_or values k v → value_at values k ≡ Some v
value_there [] k v below is = absurd (omega arith)
value_there (w ∷ vs) zero v below is = ap Some (sym is)
value_there (w ∷ vs) (suc k) v below is = value_there vs k v (omega arith) is

-- a name that has a value was read
pub named_first : {T : Type 0} (values : List T) (o : Option ℕ) (v : T) → if_more (value_at values) o ≡ Some v → (k : ℕ) × (o ≡ Some k)
named_first values None v is = absurd (cc)
named_first values (Some k) v is = (k, refl)
