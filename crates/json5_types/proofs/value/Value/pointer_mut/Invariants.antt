use Rattle.std.proofs.Common.{◌≡◌, length, IsUtf8}
use Rattle.json5_types.specs.ValueMeanings.{value_of}
use Rattle.json5_types.specs.Pointers.{pointed, steps_from, parts_of}
use Rattle.json5_types.proofs.value.Value.pointer_mut.Given as goal

-- the rest of the steps is to be taken from where the others led
abbrev pub invariant-parts : goal.invariant-parts
invariant-parts l = (pointed l.fn.path (value_of l.fn.self) ≡ steps_from (parts_of l.rest) (value_of l.target)) × IsUtf8 l.rest

abbrev pub decreases-parts : goal.decreases-parts
decreases-parts l = length l.rest
