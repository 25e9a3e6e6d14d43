use Rattle.json5_edit.proofs.Placed.{part_there, is_part_text}
use Rattle.json5_edit.proofs.changing.part_text.Goals as goal

pub returns-in-Some : goal.returns-in-Some
returns-in-Some c = λ before old after cut. part_there c.utf8.text c.in-Some.ensures.cases.0 cut

pub returns-in-None : goal.returns-in-None
returns-in-None c = λ before old after cut. absurd (is_part_text c.utf8.text (before, old, after, cut) c.in-None.ensures.cases)
