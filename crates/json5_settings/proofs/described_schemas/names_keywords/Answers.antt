use Rattle.std.proofs.Common.{◌∙◌, refl}
use Rattle.std.proofs.lemmas.List.{length-map}
use Rattle.json5_de.specs.Convert.{names_bytes}
use Rattle.json5_settings.proofs.ListsSaid.{ascii_names_say}
use Rattle.json5_settings.proofs.described_schemas.names_keywords.Goals as goal

pub returns-clause-says : goal.returns-clause-says
returns-clause-says g c = ascii_names_say (names_bytes c.args.names.now) c.args.values.now c.requires.ascii (c.requires.values ∙ simp length-map refl)
