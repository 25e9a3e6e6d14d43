use Rattle.json5_settings_types.proofs.NamesTaken.{finishes_by_either}
use Rattle.json5_settings_types.proofs.renamed.RenamedStructFields.finish.Goals as goal

pub returns-clause-finishes : goal.returns-clause-finishes
returns-clause-finishes g c =
    finishes_by_either g.T.Deserialize.content g.T.Deserialize.convert c.args.fields.name.now c.args.fields.old_name.now c.args.map.now c.required_field.new.self c.args.fields.value c.required_field.result c.required_field.ensures.access c.required_field.ensures.found c.required_field.ensures.value
