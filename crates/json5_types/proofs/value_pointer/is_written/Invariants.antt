use Rattle.std.proofs.Common.{◌≡◌, nat_eq, drop}
use Rattle.std.specs.Cmp.Lexicographic.{pointwise}
use Rattle.json5_types.specs.Pointers.{escaped_key}
use Rattle.json5_types.proofs.value_pointer.is_written.Given as goal

-- the rest of the key and of the part decide
abbrev pub invariant-loop-byte : goal.invariant-loop-byte
invariant-loop-byte l = pointwise nat_eq (escaped_key l.name) l.fn.part ≡ pointwise nat_eq (escaped_key (drop l.byte-index l.name)) l.rest
