use Rattle.std.proofs.Common.{◌≡◌, ◌++◌, drop, false}
use Rattle.json5_schema.specs.Patterns.{in_rust}
use Rattle.json5_schema.proofs.patterns.in_rust.Given as goal

abbrev pub invariant-loop-byte : goal.invariant-loop-byte
invariant-loop-byte l = (l.bytes.items ++ in_rust l.is_escape (drop l.byte-index l.pattern)) ≡ in_rust false l.pattern
