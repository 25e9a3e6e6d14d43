use Rattle.std.proofs.Common.{◌≡◌, drop, nat_eq}
use Rattle.std.specs.List.{list_any}
use Rattle.std.specs.Cmp.Lexicographic.{pointwise}
use Rattle.json5_schema.proofs.known.is_any.Given as goal

abbrev pub invariant-loop-known : goal.invariant-loop-known
invariant-loop-known l = list_any (λ known. pointwise nat_eq known.now l.name) (drop l.known-index l.names) ≡ list_any (λ known. pointwise nat_eq known.now l.name) l.names
