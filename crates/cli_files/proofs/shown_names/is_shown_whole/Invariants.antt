use Rattle.std.proofs.Common.{◌≡◌, IsUtf8}
use Rattle.std.specs.Str.Iter.{chars_rest}
use Rattle.cli_files.specs.ShownNames.{shown_name}
use Rattle.cli_files.proofs.shown_names.is_shown_whole.Given as goal

-- if what is left is shown whole, all is
abbrev pub invariant-loop-c : goal.invariant-loop-c
invariant-loop-c l = IsUtf8 (chars_rest l.c-iterator) × (shown_name (chars_rest l.c-iterator) ≡ chars_rest l.c-iterator → shown_name l.fn.name ≡ l.fn.name)
