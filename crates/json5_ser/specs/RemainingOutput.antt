-- What of a tree remains to be written in a collection.
-- A promise rests on this.
use Rattle.std.specs.Prelude.{◌≡◌, ℕ, ◌+◌, Bool, true, false}
use Rattle.std.specs.Borrow.{GName}
use Rattle.json5_write.specs.WrittenTrees.{Written, Elements, Fields}
use Rattle.json5_write.specs.Out.{Out, ◌then◌, out, elements_out, fields_out, value_part}
use Rattle.json5_write.specs.Writes.{SerializerState, Reaches, at_depth}
use Rattle.json5_ser.specs.WrittenCollections.{within_variant, inner, reference_of, state_of, is_list, key_pending, has_member, in_variant}
use Rattle.json5_ser.specs.declared.collection.SerializeCollection.{SerializeCollection}

-- elements, fields, or the value of the key that was written last and the fields after it
pub data Rest : Type 0 where
  elements : Elements → Rest
  fields : Fields → Rest
  value : Written → Fields → Rest

abbrev pub is_of_list : Rest → Bool
is_of_list (elements ts) = true
is_of_list (fields fs) = false
is_of_list (value t fs) = false

abbrev pub is_value : Rest → Bool
is_value (elements ts) = false
is_value (fields fs) = false
is_value (value t fs) = true

-- its output in a collection within d others; the Bool says that something was written in it already
abbrev pub rest_out : ℕ → Rest → ℕ → Bool → Out
rest_out limit (elements ts) d started = elements_out limit ts d started
rest_out limit (fields fs) d started = fields_out limit fs d started
rest_out limit (value t fs) d started = value_part (out limit t (d + 1)) then fields_out limit fs d true

-- of the tree t, which was begun at `at`, this remains to be written in the collection, which holds the reference of this name
pub record Remains {W : Type 0} (t : Written) (name : GName) (at : SerializerState) (c : SerializeCollection W) (r : Rest) : Type 0 where
  pub same_reference : reference_of c ≡ name
  pub reaches : Reaches (out at.limit t at.depth) at (at_depth at.depth (state_of c)) (within_variant (in_variant c) at.depth (rest_out at.limit r (inner (in_variant c) at.depth) (has_member c)))
  pub depth : (state_of c).depth ≡ inner (in_variant c) at.depth + 1
  pub limit : (state_of c).limit ≡ at.limit
  pub list : is_list c ≡ is_of_list r
  pub pending : key_pending c ≡ is_value r
