use Rattle.std.proofs.Common.{◌≡◌, map, string_bytes}
use Rattle.json5_fields.specs.Distinct.{texts}
use Rattle.json5_fields.proofs.distinct_texts.values_of.Given as goal

abbrev pub invariant-loop-item : goal.invariant-loop-item
invariant-loop-item l = map string_bytes l.values.items ≡ texts l.yielded
