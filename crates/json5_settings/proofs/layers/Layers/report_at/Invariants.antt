use Rattle.std.proofs.Common.{◌≡◌, ◌++◌, List, length}
use Rattle.json5_settings.specs.Stacks.{Layer}
use Rattle.json5_settings.specs.Texts.{layers_in}
use Rattle.json5_settings.specs.Told.{AllLack}
use Rattle.json5_settings.proofs.layers.Layers.report_at.Given as goal

-- the path leads nowhere in the layers after those that are left
abbrev pub invariant-loop-layer : goal.invariant-loop-layer
invariant-loop-layer l = (after : List Layer) × (layers_in l.self-inside.layers.items ≡ layers_in l.left ++ after) × AllLack l.fn.steps after

abbrev pub decreases-loop-layer : goal.decreases-loop-layer
decreases-loop-layer l = length l.left
