use Rattle.std.proofs.Common.{◌≤◌, take, vec_len, vec_items}
use Rattle.std.specs.Io.KnownBytes.{Consumes}
use Rattle.cli_files.proofs.input.read_whole.Given as goal

-- what was read is at the front of the bytes
abbrev pub invariant-loop : goal.invariant-loop
invariant-loop g l = (l.filled ≤ vec_len l.bytes) × Consumes (g.R.Read.remaining l.initial.r) (g.R.Read.remaining l.r) (take l.filled (vec_items l.bytes))
