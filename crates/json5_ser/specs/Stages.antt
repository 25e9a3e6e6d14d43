-- How far a collection has come.
-- A promise rests on this.
use Rattle.std.specs.Prelude.{Bool, true, false}
use Rattle.json5_ser.specs.declared.collection.CollectionStage.{CollectionStage}
use Rattle.json5_ser.specs.declared.collection.CollectionStage.TheVariants as stage

-- whether something was written in it
abbrev pub is_started : CollectionStage → Bool
is_started stage.Empty = false
is_started stage.Started = true
is_started stage.KeyPending = true

-- whether a key waits for its value
abbrev pub is_pending : CollectionStage → Bool
is_pending stage.Empty = false
is_pending stage.Started = false
is_pending stage.KeyPending = true
