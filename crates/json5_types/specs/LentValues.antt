-- What a value ends as, once a `&mut` into it has ended.
-- A promise rests on this.
use Rattle.std.specs.Prelude.{◌≡◌, ℕ, List, [], ◌∷◌, Option, OnSome, String, Vec}
use Rattle.std.specs.Borrow.{Fml, MutBor, RattleType, LendsSo}
use denote.Struct.Tuple.{Tuple}
use Rattle.std.specs.declared.alloc.Global.{Global}
use Rattle.std.specs.contracts.alloc.Global as global
use Rattle.std.specs.contracts.vec.Vec as vec
use Rattle.std.specs.contracts.string.String as text
use Rattle.std.specs.contracts.impls.GlobalAllocator.TheImpl.{ghosts}
use Rattle.json5_types.specs.contracts.value.Value.{the_row}
use Rattle.json5_types.specs.declared.value.Value.{Value}
use Rattle.json5_types.specs.ValueChanges.{put_named}
use Rattle.json5_types.specs.ValueMeanings.{value_of, fields_view}

-- the types of what a value holds, as the logic has them
abbrev pub items_row : RattleType
items_row = vec.the_row the_row global.the_row ghosts

abbrev pub fields_row : RattleType
fields_row = vec.the_row (Tuple (text.the_row global.the_row ghosts ∷ the_row ∷ [])) global.the_row ghosts

-- if something is lent, the last member with the key has what is there at the end; else the members stay
abbrev pub LendsMember : List ℕ → MutBor (Vec (String Global × Value) Global) → Option (MutBor Value) → Fml
LendsMember key fs r = LendsSo fields_row the_row fs r (λ new w. OnSome r (fields_view new.items ≡ put_named key (value_of w) (fields_view fs.now.items))) (λ new. new ≡ fs.now)
