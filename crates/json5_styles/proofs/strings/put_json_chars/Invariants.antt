use Rattle.std.proofs.Common.{length}
use Rattle.std.specs.Str.{IsUtf8, chars}
use Rattle.json5_write.specs.Out.{piece}
use Rattle.json5_write.proofs.OutputsJoined.{Reaches}
use Rattle.json5_styles.specs.JsonTexts.{json_escaped_all}
use Rattle.json5_styles.proofs.strings.put_json_chars.Given as goal

abbrev pub invariant-loop-raw : goal.invariant-loop-raw
invariant-loop-raw g l = record {
  reaches : Reaches (piece (json_escaped_all (chars l.fn.text))) l.fn.printer l.printer (piece (json_escaped_all (chars l.rest)));
  utf8 : IsUtf8 l.rest;
}

abbrev pub decreases-loop-raw : goal.decreases-loop-raw
decreases-loop-raw g l = length l.rest
