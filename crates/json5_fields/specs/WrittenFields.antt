-- Some fields of a struct, written one after another.
-- A promise rests on this.
use Rattle.std.specs.Prelude.{◌≡◌, ℕ, List, Option, Some, None, Result, IfErr, OnOk, IsErrAnd}
use Rattle.std.specs.Str.{chars}
use Rattle.std.specs.Borrow.{GName}
use Rattle.json5_types.specs.declared.error.Error.{Error}
use Rattle.json5_ser.specs.WrittenTrees.{Written, Fields, field, named}
use Rattle.json5_ser.specs.Writes.{SerializerState, WritesTree}
use Rattle.json5_ser.specs.WrittenCollections.{serializer_of, reference_of, ExpectsKey}
use Rattle.json5_ser.specs.declared.collection.SerializeCollection.{SerializeCollection}
use Rattle.json5_ser.specs.RemainingOutput.{Remains, fields}

-- a field of this name, before others
abbrev pub field_named : List ℕ → Written → Fields → Fields
field_named name t fs = field (named (chars name)) t fs

-- one that is left out where there is no value
abbrev pub field_given : {V : Type 0} → (V → Written) → List ℕ → Option V → Fields → Fields
field_given tree name None fs = fs
field_given tree name (Some v) fs = field_named name (tree v) fs

-- the fields that `add` adds were written, and others remain; or one of them was refused
pub record WritesFields {W : Type 0} (add : Fields → Fields) (old new : SerializeCollection W) (result : Result (Unit {0}) Error) : Type 0 where
  pub on : OnOk result ((t : Written) (name : GName) (at : SerializerState) (fs : Fields) → Remains t name at old (fields (add fs)) → Remains t name at new (fields fs))
  pub refused : IfErr result (λ e. (t : Written) (name : GName) (at : SerializerState) (fs : Fields) → Remains t name at old (fields (add fs)) → (last lent : SerializerState) → lent ≡ serializer_of new → (name ≡ reference_of new → last ≡ lent) → (r : Result (Unit {0}) Error) → IsErrAnd r (λ y. y ≡ e) → WritesTree t at r last)
  pub same_reference : reference_of new ≡ reference_of old
  pub expects : OnOk result (ExpectsKey new)
