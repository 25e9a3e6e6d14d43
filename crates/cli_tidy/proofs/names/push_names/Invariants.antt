use Rattle.std.proofs.Common.{◌≡◌, ◌++◌, take}
use Rattle.cli_files.specs.NameLists.{names_of}
use Rattle.cli_tidy.proofs.names.push_names.Given as goal

abbrev pub invariant-loop-name : goal.invariant-loop-name
invariant-loop-name l = names_of l.names.items ≡ names_of l.fn.names.items ++ names_of (take l.name-index l.more)
