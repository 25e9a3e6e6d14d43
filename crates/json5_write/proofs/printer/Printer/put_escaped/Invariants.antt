use Rattle.std.proofs.Common.{length}
use Rattle.std.specs.Str.{IsUtf8, chars}
use Rattle.json5_grammar.specs.Written.Quoting.{escaped_all}
use Rattle.json5_write.specs.Quotes.{delimiter}
use Rattle.json5_write.specs.Out.{piece}
use Rattle.json5_write.proofs.OutputsJoined.{Reaches}
use Rattle.json5_write.proofs.printer.Printer.put_escaped.Given as goal

abbrev pub invariant-loop-raw : goal.invariant-loop-raw
invariant-loop-raw g l = record {
  reaches : Reaches (piece (escaped_all (delimiter l.fn.quote) (chars l.fn.text))) l.fn.self l.self (piece (escaped_all (delimiter l.fn.quote) (chars l.rest)));
  utf8 : IsUtf8 l.rest;
}

abbrev pub decreases-loop-raw : goal.decreases-loop-raw
decreases-loop-raw g l = length l.rest
