use Rattle.std.proofs.Common.{sym}
use Rattle.cli_tidy.proofs.reports.report_trouble.Goals as goal

pub returns-in-Refused-clause-line : goal.returns-in-Refused-clause-line
returns-in-Refused-clause-line g c = rw (c.in-Refused.is, sym c.as_str.ensures.value) c.say.ensures

pub returns-in-Unopened-clause-line : goal.returns-in-Unopened-clause-line
returns-in-Unopened-clause-line g c = rw (c.in-Unopened.is, sym c.words.ensures) c.say_of.ensures

pub returns-in-NoFile-clause-line : goal.returns-in-NoFile-clause-line
returns-in-NoFile-clause-line g c = rw c.in-NoFile.is c.say_of-in-NoFile.ensures
