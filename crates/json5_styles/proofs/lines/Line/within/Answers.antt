use Rattle.json5_styles.proofs.BlanksPut.{comma_alone}
use Rattle.json5_styles.proofs.lines.Line.within.Goals as goal

pub returns-in-Compact : goal.returns-in-Compact
returns-in-Compact c = λ due. rw c.in-Compact.is (comma_alone due)

pub returns-in-Spaces : goal.returns-in-Spaces
returns-in-Spaces c = rw c.in-Spaces.is (rw c.from.ensures at c.indented.ensures)

pub returns-in-Tabs : goal.returns-in-Tabs
returns-in-Tabs c = rw c.in-Tabs.is c.indented-in-Tabs.ensures
