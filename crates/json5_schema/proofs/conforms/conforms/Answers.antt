use Rattle.json5_types.specs.ValueMeanings.{value_of}
use Rattle.json5_schema.proofs.Parts.{whole_schema}
use Rattle.json5_schema.proofs.conforms.conforms.Goals as goal

pub returns : goal.returns
returns c = whole_schema c.conforms_within.result 2048 (value_of c.args.schema.now) (value_of c.args.value.now) c.conforms_within.ensures
