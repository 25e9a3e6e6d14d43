use Rattle.std.proofs.Common.{length}
use Rattle.cli_files.specs.NameLists.{names_of}
use Rattle.cli_check.specs.CommandWords.{choices_of, nothing_chosen}
use Rattle.cli_check.specs.WordSteps.{GoesOn}
use Rattle.cli_check.proofs.options.Options.of.Given as goal

abbrev pub invariant-loop-word : goal.invariant-loop-word
invariant-loop-word l = GoesOn nothing_chosen (names_of l.list) (choices_of l.options) (names_of l.left)

abbrev pub decreases-loop-word : goal.decreases-loop-word
decreases-loop-word l = length (names_of l.left)
