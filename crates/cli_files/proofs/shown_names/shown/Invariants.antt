use Rattle.std.proofs.Common.{◌≡◌, ◌++◌, IsUtf8}
use Rattle.std.specs.Prelude.{string_bytes}
use Rattle.std.specs.Str.Iter.{chars_rest}
use Rattle.cli_files.specs.ShownNames.{shown_name}
use Rattle.cli_files.proofs.shown_names.shown.Given as goal

abbrev pub invariant-loop-c : goal.invariant-loop-c
invariant-loop-c l = IsUtf8 (chars_rest l.c-iterator) × (shown_name l.fn.name ≡ string_bytes l.text ++ shown_name (chars_rest l.c-iterator))
