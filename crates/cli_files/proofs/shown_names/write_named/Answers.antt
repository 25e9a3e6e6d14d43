use Rattle.std.proofs.Common.{sym, ◌∙◌}
use Rattle.cli_files.proofs.PiecesJoined.{both_pushed, front_pushed}
use Rattle.cli_files.proofs.shown_names.write_named.Goals as goal

pub returns-then-is_err : goal.returns-then-is_err
returns-then-is_err g c = front_pushed _ _ _ _ c.write_name-written.result (sym c.is_err.ensures.value ∙ c.if-is_err.true) c.write_name-written.ensures

pub returns : goal.returns
returns g c = both_pushed _ _ _ _ _ c.write_name-written.result c.write_texts.result (sym c.is_err.ensures.value ∙ c.if-is_err.false) c.write_name-written.ensures c.write_texts.ensures
