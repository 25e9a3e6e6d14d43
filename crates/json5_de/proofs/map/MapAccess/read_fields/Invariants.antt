use Rattle.std.proofs.Common.{◌≡◌, None, true, false, length}
use Rattle.json5_de.specs.State.{SameText}
use Rattle.json5_de.specs.Lending.{map_state_of, HoldsTheSameMap}
use Rattle.json5_de.proofs.Structs.{ReadingStruct}
use Rattle.json5_de.proofs.map.MapAccess.read_fields.Given as goal

abbrev pub invariant-loop-field_key : goal.invariant-loop-field_key
invariant-loop-field_key g l = record {
  same_reference : HoldsTheSameMap l.fn.self l.self;
  start : (map_state_of l.self).at.start ≡ (map_state_of l.fn.self).at.start;
  same_text : SameText (map_state_of l.fn.self).at.reader (map_state_of l.self).at.reader;
  failed : (map_state_of l.fn.self).at.reader.failed ≡ true → (map_state_of l.self).at.reader.failed ≡ true;
  no_key : (map_state_of l.self).pending ≡ false;
  reading : ReadingStruct g.F.Fields.step (g.F.Fields.content l.fn.fields) (map_state_of l.fn.self) (g.F.Fields.content l.fields) None (map_state_of l.self);
}

abbrev pub decreases-loop-field_key : goal.decreases-loop-field_key
decreases-loop-field_key g l = length (map_state_of l.self).at.reader.unread
