use Rattle.std.proofs.Common.{◌≡◌, take}
use Rattle.json5_types.specs.ValueMeanings.{fields_view}
use Rattle.json5_settings.specs.Schemas.{member_schemas}
use Rattle.json5_settings.proofs.schemas.+schema.Given as goal

-- the members that were taken have their schemas
abbrev pub invariant-schemas_of-loop-key : goal.invariant-schemas_of-loop-key
invariant-schemas_of-loop-key l = fields_view l.schemas.items ≡ member_schemas l.fn.comments l.fn.at (fields_view (take l.key-index l.fn.fields))
