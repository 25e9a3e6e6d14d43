use Rattle.std.proofs.Common.{◌≡◌, drop, string_bytes, take}
use Rattle.json5_types.specs.declared.error.Error.{Error}
use Rattle.json5_convert.specs.Lines.{RefusesLines, lines_of}
use Rattle.json5_convert.proofs.lines.to_lines.Given as goal

abbrev pub invariant-loop-value : goal.invariant-loop-value
invariant-loop-value l = (string_bytes l.made ≡ lines_of (take l.value-index l.values)) × ((e : Error) → RefusesLines (drop l.value-index l.values) e → RefusesLines l.values e)
