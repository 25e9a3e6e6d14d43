use Rattle.cli_files.proofs.reports.report.Goals as goal
use Rattle.cli_files.proofs.reports.report.Goals.{in-NotUtf8, in-Text, in-NoMemory, in-Read, in-Write}

pub returns-clause-line : goal.returns-clause-line
returns-clause-line g c =
    elim c.match-failure.branch [
      | in-NotUtf8 w ↦ rw (w.in-NotUtf8.is, w.e-is) w.say_of.ensures
      | in-Text w ↦ rw (w.in-Text.is, w.e-is) w.say_fault.ensures
      | in-NoMemory w ↦ rw (w.in-NoMemory.is, w.e-is) w.say_of-in-NoMemory.ensures
      | in-Read w ↦ rw (w.in-Read.is, w.e-is) w.say_of-in-Read.ensures
      | in-Write w ↦ rw (w.in-Write.is, w.e-is) w.say_of-in-Write.ensures
    ]
