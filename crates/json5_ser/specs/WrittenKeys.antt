-- What a call does that writes a key.
-- A promise rests on this.
use Rattle.std.specs.Prelude.{Result}
use Rattle.json5_types.specs.declared.error.Error.{Error}
use Rattle.json5_write.specs.WrittenTrees.{WrittenKey}
use Rattle.json5_write.specs.Out.{key_out}
use Rattle.json5_write.specs.Writes.{SerializerState, Writes}

abbrev pub WritesKey : {A : Type 0} → WrittenKey → SerializerState → Result A Error → SerializerState → Type 0
WritesKey k old result new = Writes (key_out k) old result new
