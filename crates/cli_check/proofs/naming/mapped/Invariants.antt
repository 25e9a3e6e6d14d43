use Rattle.std.proofs.Common.{ℕ, ◌<◌, slice_index_or, List}
use Rattle.std.specs.declared.alloc.Global.{Global}
use Rattle.std.specs.Prelude.{String}
use Rattle.cli_check.specs.Naming.{MapsTo}
use Rattle.cli_check.proofs.naming.mapped.Given as goal

abbrev pub invariant-loop-map : goal.invariant-loop-map
invariant-loop-map l = (k : ℕ) (d : String Global) (file : List ℕ) → k < l.map-index → ¬ (MapsTo l.schema file (slice_index_or l.maps k d))
