use Rattle.std.proofs.Common.{◌≡◌, ◌≤◌, ◌*◌, ◌++◌, drop}
use Rattle.arrayvec.specs.ArrayString.{array_string_len}
use Rattle.json5_settings_types.specs.Sums.{measures_of, parts_text}
use Rattle.json5_settings_types.proofs.sums.parts_of.Given as goal

abbrev pub invariant-loop-unit : goal.invariant-loop-unit
invariant-loop-unit l = record {
  written : l.text.bytes ++ parts_text (measures_of (drop l.unit-index l.units)) l.rest ≡ parts_text (measures_of l.units) l.fn.number;
  room : array_string_len l.text ≤ 23 * l.unit-index;
}
