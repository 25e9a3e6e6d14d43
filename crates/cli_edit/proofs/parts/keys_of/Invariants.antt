use Rattle.std.proofs.Common.{take}
use Rattle.std.specs.Prelude.{string_bytes}
use Rattle.json5_types.specs.ValueMeanings.{fields_view}
use Rattle.cli_edit.specs.Parts.{KeyLines}
use Rattle.cli_edit.proofs.parts.keys_of.Given as goal

abbrev pub invariant-loop-field : goal.invariant-loop-field
invariant-loop-field l = KeyLines (fields_view (take l.field-index l.fields)) (string_bytes l.made)
