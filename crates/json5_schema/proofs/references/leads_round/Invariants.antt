use Rattle.std.proofs.Common.{◌≡◌, ◌⊎◌}
use denote.Shadow.{shadow}
use denote.Text.{Utf8}
use Rattle.json5_types.specs.ValueMeanings.{value_of}
use Rattle.json5_schema.specs.Refusals.{LeadsTo}
use Rattle.json5_schema.proofs.references.leads_round.Given as goal

-- the first one leads to the last one that was come to
abbrev pub invariant-loop-next : goal.invariant-loop-next
invariant-loop-next l = shadow (Utf8 l.last) × ((l.last ≡ l.first) ⊎ LeadsTo (value_of l.root) l.first l.last)
