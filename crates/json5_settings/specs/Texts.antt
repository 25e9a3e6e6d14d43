-- The layers that contracts see.
-- A promise rests on this.
use Rattle.std.specs.Prelude.{List, map, string_bytes}
use Rattle.json5_settings.specs.Stacks.{Layer}
use Rattle.json5_settings.specs.declared.layers.Layer.{Layer as Kept}

abbrev pub layer_of : Kept → Layer
layer_of layer = (string_bytes layer.name, string_bytes layer.text)

-- in the order in which they were added
abbrev pub layers_in : List Kept → List Layer
layers_in layers = map layer_of layers
