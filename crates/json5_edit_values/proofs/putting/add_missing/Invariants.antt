use Rattle.std.proofs.Common.{true, take}
use Rattle.json5_edit_values.specs.News.{LeadsSo}
use Rattle.json5_edit_values.proofs.putting.add_missing.Given as goal

-- so many steps lead somewhere
abbrev pub invariant-loop-count : goal.invariant-loop-count
invariant-loop-count l = LeadsSo true l.text (take l.count l.path)
