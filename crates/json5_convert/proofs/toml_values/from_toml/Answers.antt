use Rattle.std.proofs.Common.{inl, inr}
use Rattle.json5_convert.proofs.toml_values.from_toml.Goals as goal

pub returns-in-Err : goal.returns-in-Err
returns-in-Err c = elim c.fault_of.ensures [
  | inl lacks ↦ inl lacks
  | inr other ↦ inr (c.in-Err.ensures.refused other)
]
