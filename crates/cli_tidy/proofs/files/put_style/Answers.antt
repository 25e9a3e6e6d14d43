use Rattle.std.proofs.Common.{inl}
use Rattle.cli_tidy.proofs.files.put_style.Goals as goal

pub returns-in-Ok : goal.returns-in-Ok
returns-in-Ok g c = inl (_, c.put.ensures)
