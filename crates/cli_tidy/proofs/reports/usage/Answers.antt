use Rattle.cli_tidy.proofs.reports.usage.Goals as goal

pub returns : goal.returns
returns g c = (c.as_str.result.now, c.say.ensures)
