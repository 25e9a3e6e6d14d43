-- How far an access has come.
-- A promise rests on this.
use Rattle.std.specs.Prelude.{Bool, true, false}
use Rattle.json5_de.specs.declared.stage.AccessStage.{AccessStage}
use Rattle.json5_de.specs.declared.stage.AccessStage.TheVariants as stage

-- whether a comma is due before the next element or member
abbrev pub is_comma_due : AccessStage → Bool
is_comma_due stage.Empty = false
is_comma_due stage.FirstKey = false
is_comma_due stage.Started = true
is_comma_due stage.LaterKey = true

-- whether a key waits for its value
abbrev pub is_pending : AccessStage → Bool
is_pending stage.Empty = false
is_pending stage.FirstKey = true
is_pending stage.Started = false
is_pending stage.LaterKey = true

-- the stage after a call for an element, which was read or not
abbrev pub with_element : AccessStage → Bool → AccessStage
with_element s true = stage.Started
with_element s false = s

-- the stage after a call for a key, which was read or not
abbrev pub with_key : AccessStage → Bool → AccessStage
with_key s false = s
with_key stage.Empty true = stage.FirstKey
with_key stage.FirstKey true = stage.FirstKey
with_key stage.Started true = stage.LaterKey
with_key stage.LaterKey true = stage.LaterKey
