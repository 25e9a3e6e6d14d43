use Rattle.std.proofs.Common.{ℕ, ◌<◌, slice_index_or}
use Rattle.std.specs.declared.alloc.Global.{Global}
use Rattle.std.specs.Prelude.{String, string_bytes}
use Rattle.cli_files.specs.Folders.{HasEnding}
use Rattle.cli_files.proofs.endings.has_any_ending.Given as goal

abbrev pub invariant-loop-ending : goal.invariant-loop-ending
invariant-loop-ending l = (k : ℕ) (d : String Global) → k < l.ending-index → ¬ (HasEnding (string_bytes (slice_index_or l.endings k d)) l.name)
