use Rattle.std.proofs.Common.{◌≡◌, take}
use Rattle.json5_types.specs.ValueMeanings.{items_view}
use Rattle.json5_de.specs.Convert.{names_bytes}
use Rattle.json5_settings.specs.DescribedSchemas.{texts_of}
use Rattle.json5_settings.proofs.described_schemas.texts_of.Given as goal

-- the names that were taken
abbrev pub invariant-loop-name : goal.invariant-loop-name
invariant-loop-name l = items_view l.texts.items ≡ texts_of (names_bytes (take l.name-index l.names))
