use Rattle.std.proofs.Common.{take}
use Rattle.json5_types.specs.ValueMeanings.{value_of, object, no_field}
use Rattle.json5_settings.specs.Stacks.{StacksOnto}
use Rattle.json5_settings.specs.Texts.{layers_in}
use Rattle.json5_settings.proofs.layers.Layers.merged.Given as goal

-- the documents so far were merged
abbrev pub invariant-loop-index : goal.invariant-loop-index
invariant-loop-index l = StacksOnto (object no_field) (layers_in (take l.index l.self-inside.layers.items)) (value_of l.value)
