use Rattle.std.proofs.Common.{◌≡◌, drop}
use Rattle.json5_schema.specs.Refusals.{are_in_name}
use Rattle.json5_schema.proofs.looking.are_in_name.Given as goal

abbrev pub invariant-loop-byte : goal.invariant-loop-byte
invariant-loop-byte l = are_in_name (drop l.byte-index l.bytes) ≡ are_in_name l.bytes
