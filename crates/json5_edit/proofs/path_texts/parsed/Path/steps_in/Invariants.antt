use Rattle.std.proofs.Common.{take}
use Rattle.json5_edit.specs.PathTexts.{AreStepsOf}
use Rattle.json5_edit.proofs.path_texts.parsed.Path.steps_in.Given as goal

abbrev pub invariant-loop-written : goal.invariant-loop-written
invariant-loop-written l = AreStepsOf l.text (take l.written-index l.self.written.items) l.steps.items
