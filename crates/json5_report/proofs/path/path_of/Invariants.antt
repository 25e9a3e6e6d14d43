use Rattle.std.proofs.Common.{◌≡◌, drop, []}
use Rattle.std.specs.Prelude.{string_bytes}
use Rattle.json5_report.proofs.PathsShown.{path_onto}
use Rattle.json5_report.proofs.path.path_of.Given as goal

-- what is left of the brackets leads to the same path
abbrev pub invariant-loop-part : goal.invariant-loop-part
invariant-loop-part l = path_onto (string_bytes l.path) (drop l.part-index l.course.outer.items) ≡ path_onto [] l.course.outer.items
