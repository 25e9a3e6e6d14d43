use Rattle.std.proofs.Common.{◌≡◌, drop}
use Rattle.std.specs.Str.{chars}
use Rattle.json5_types.specs.ValueMeanings.{fields_view}
use Rattle.json5_schema.specs.Conformance.{is_matched}
use Rattle.json5_schema.proofs.asked.is_matched.Given as goal

abbrev pub invariant-loop-pattern : goal.invariant-loop-pattern
invariant-loop-pattern l = is_matched (fields_view (drop l.pattern-index l.schemas)) (chars l.name) ≡ is_matched (fields_view l.schemas) (chars l.name)
