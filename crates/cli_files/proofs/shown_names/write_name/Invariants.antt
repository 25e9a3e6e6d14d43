use Rattle.std.proofs.Common.{◌≡◌, ◌++◌, ℕ, List, IsUtf8}
use Rattle.std.specs.Io.KnownBytes.{Appends}
use Rattle.std.specs.Str.Iter.{chars_rest}
use Rattle.cli_files.specs.ShownNames.{shown_name}
use Rattle.cli_files.proofs.shown_names.write_name.Given as goal

-- what was written so far is followed by what is left
abbrev pub invariant-loop-c : goal.invariant-loop-c
invariant-loop-c g l = IsUtf8 (chars_rest l.c-iterator)
    × (done : List ℕ) × (shown_name l.fn.name ≡ done ++ shown_name (chars_rest l.c-iterator)) × Appends (g.W.Write.contents l.initial.w) (g.W.Write.contents l.w) done
