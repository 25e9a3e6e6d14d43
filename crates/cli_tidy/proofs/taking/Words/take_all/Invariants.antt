use Rattle.std.proofs.Common.{length}
use Rattle.cli_files.specs.NameLists.{names_of}
use Rattle.cli_tidy.specs.WordSteps.{ChooseAlike, choices_of}
use Rattle.cli_tidy.proofs.taking.Words.take_all.Given as goal

abbrev pub invariant-loop-word : goal.invariant-loop-word
invariant-loop-word l = ChooseAlike (choices_of l.fn.self) (names_of l.list) (choices_of l.self) (names_of l.left)

abbrev pub decreases-loop-word : goal.decreases-loop-word
decreases-loop-word l = length l.left
