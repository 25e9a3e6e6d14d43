-- The serializer that is lent to a key.
-- A promise rests on this.
use Rattle.std.specs.Prelude.{Result}
use Rattle.json5_grammar.specs.Language.Values.{null_text}
use Rattle.json5_types.specs.declared.error.Error.{Error}
use Rattle.json5_write.specs.WrittenTrees.{named, bad}
use Rattle.json5_write.specs.Writes.{SerializerState}
use Rattle.json5_ser.specs.WrittenKeys.{WritesKey}
use Rattle.json5_ser.specs.declared.key.MapKey.{MapKey}

module _ {W : Type 0} where
  abbrev pub serializer_of_key : MapKey W → SerializerState
  serializer_of_key key = key.ser.now

  -- a call that writes `null` as the key
  abbrev pub WritesNull : {A : Type 0} → MapKey W → Result A Error → SerializerState → Type 0
  WritesNull key result new = WritesKey (named null_text) (serializer_of_key key) result new

  -- a call that writes something that can't be a key
  abbrev pub RefusesKey : {A : Type 0} → MapKey W → Result A Error → SerializerState → Type 0
  RefusesKey key result new = WritesKey bad (serializer_of_key key) result new
