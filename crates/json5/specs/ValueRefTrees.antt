-- What is written of a value whose texts are borrowed: the tree of the value that means the same.
-- A promise rests on this.
use Rattle.std.specs.Str.{chars}
use Rattle.json5_types.specs.declared.cow_str.CowStr.{CowStr}
use Rattle.json5_types.specs.Cows.{cow_bytes}
use Rattle.json5_write.specs.WrittenTrees.{WrittenKey, Written, named}
use Rattle.json5_write.specs.ValueTrees.{datum_tree}
use Rattle.json5.specs.declared.value_ref.ValueRef.{ValueRef}
use Rattle.json5.specs.ValueRefs.{ref_of}

abbrev pub ref_tree : ValueRef → Written
ref_tree v = datum_tree (ref_of v)

-- the key of this text
abbrev pub key_of_cow : CowStr → WrittenKey
key_of_cow s = named (chars (cow_bytes s))
