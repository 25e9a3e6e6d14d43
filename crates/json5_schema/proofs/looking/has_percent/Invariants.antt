use Rattle.std.proofs.Common.{◌≡◌, drop}
use Rattle.json5_schema.specs.Refusals.{has_percent}
use Rattle.json5_schema.proofs.looking.has_percent.Given as goal

abbrev pub invariant-loop-byte : goal.invariant-loop-byte
invariant-loop-byte l = has_percent (drop l.byte-index l.text) ≡ has_percent l.text
