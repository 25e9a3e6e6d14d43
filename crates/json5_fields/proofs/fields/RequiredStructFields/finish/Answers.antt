use Rattle.json5_de.specs.Lending.{map_state_of}
use Rattle.json5_fields.proofs.Described.{required_finishes, required_made}
use Rattle.json5_fields.proofs.fields.RequiredStructFields.finish.Goals as goal

pub returns-clause-finishes : goal.returns-clause-finishes
returns-clause-finishes g c = required_finishes g.T.Deserialize.content g.T.Deserialize.convert c.args.fields.name.now c.required_field.result c.required_field.ensures.access c.required_field.ensures.found c.required_field.ensures.value

pub returns-clause-no_memory : goal.returns-clause-no_memory
returns-clause-no_memory g c = required_made g.T.Deserialize.content g.T.Deserialize.convert c.args.fields.name.now (map_state_of c.args.map.now) _ c.required_field.result c.required_field.ensures.value
