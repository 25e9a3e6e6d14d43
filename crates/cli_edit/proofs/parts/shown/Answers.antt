use Rattle.std.proofs.Common.{rules}
use Rattle.std.specs.Prelude.{string_bytes}
use Rattle.cli_edit.proofs.PartsRead.{memory_none, shown_nothing, shown_spelled, spelled_refused}
use Rattle.cli_edit.proofs.parts.shown.Goals as goal

pub returns-in-Nothing-clause-shown : goal.returns-in-Nothing-clause-shown
returns-in-Nothing-clause-shown c = rw c.in-Nothing.is (shown_nothing c.args.part.now (string_bytes c.new.result) c.requires (search rules))

pub returns-in-Spelled-clause-shown : goal.returns-in-Spelled-clause-shown
returns-in-Spelled-clause-shown c = rw c.in-Spelled.is (shown_spelled c.args.part.now c.requires c.line_of.result c.line_of.ensures.ended)

pub returns-in-Spelled-clause-refused : goal.returns-in-Spelled-clause-refused
returns-in-Spelled-clause-refused c = rw c.in-Spelled.is (spelled_refused c.args.part.now c.requires c.line_of.result c.line_of.ensures.full)

pub returns : goal.returns
returns c = record { shown = tt; refused = memory_none c.args.view c.args.part.now c.requires }
