use Rattle.std.proofs.Common.{length}
use Rattle.std.specs.Str.{chars}
use Rattle.json5_report.proofs.CoursesTaken.{IsOn}
use Rattle.json5_report.proofs.course.Course.before.Given as goal

abbrev pub invariant-loop-course : goal.invariant-loop-course
invariant-loop-course l = IsOn (chars l.fn.text) l.fn.offset l.scanner l.course

abbrev pub decreases-loop-course : goal.decreases-loop-course
decreases-loop-course l = length l.scanner.unread
