use Rattle.std.proofs.Common.{length, IsUtf8}
use Rattle.json5_edit.proofs.PathsRead.{PartsGoOn}
use Rattle.json5_edit.proofs.path_texts.pointers.read_pointer.Given as goal

abbrev pub invariant-parts : goal.invariant-parts
invariant-parts l = PartsGoOn l.fn.rest l.left l.steps.items × IsUtf8 l.left

abbrev pub decreases-parts : goal.decreases-parts
decreases-parts l = length l.left
