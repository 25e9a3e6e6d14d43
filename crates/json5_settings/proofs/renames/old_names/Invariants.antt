use Rattle.std.proofs.Common.{take}
use Rattle.json5_settings.specs.OldNames.{AreOldNames}
use Rattle.json5_settings.proofs.renames.old_names.Given as goal

abbrev pub invariant-loop-old : goal.invariant-loop-old
invariant-loop-old l = AreOldNames l.text (take l.old-index l.names) l.told.items
