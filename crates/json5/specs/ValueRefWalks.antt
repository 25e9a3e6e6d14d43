-- What reading a borrowed value takes of a walk.
-- Private.
use Rattle.std.specs.Prelude.{◌≡◌, Bool, true, false, List, ◌∷◌, Option, Some, None}
use Rattle.std.specs.Str.{chars, encode_utf8_all}
use Rattle.json5_grammar.specs.Language.Trees.{Tree, Trees, Members, null, boolean, number, text, array, object, no_more, more, no_member, member}
use Rattle.json5_grammar.specs.Model.Collections.{snoc, snoc_member}
use Rattle.json5_types.specs.declared.cow_str.CowStr.{CowStr}
use Rattle.json5_types.specs.Cows.{cow_bytes}
use Rattle.json5_types.specs.ValueMeanings.{Datum, Items, Fields, no_item, item, no_field, field}
use Rattle.json5_types.specs.ValueMeanings as datum
use Rattle.json5_read.specs.declared.brackets.BracketKind.{BracketKind as Kind}
use Rattle.json5_read.specs.declared.brackets.BracketKind.TheVariants as kind
use Rattle.json5_walk.specs.Nexts.{takes_value}
use Rattle.json5_walk.specs.Frames.{Frame, in_array, in_object, At, at_element, at_key, at_comma, next_of, value_frames}
use Rattle.json5_walk.specs.Moves.{Closes, TakesComma, TakesKeyOf}
use Rattle.json5_walk.specs.Walks.{Walked, Moved}
use Rattle.json5.specs.declared.value_ref.ValueRef.{ValueRef}
use Rattle.json5.specs.ValueRefs.{ref_of}

-- what a tree means, as the bytes of its texts say it
abbrev mutual
  pub meaning_of : Tree → Datum
  meaning_of null = datum.null
  meaning_of (boolean b) = datum.boolean b
  meaning_of (number n) = datum.number n
  meaning_of (text u escape_free) = datum.text (chars (encode_utf8_all u))
  meaning_of (array ts) = datum.array (meanings_of ts)
  meaning_of (object ps) = datum.object (member_meanings ps)

  pub meanings_of : Trees → Items
  meanings_of no_more = no_item
  meanings_of (more t ts) = item (meaning_of t) (meanings_of ts)

  pub member_meanings : Members → Fields
  member_meanings no_member = no_field
  member_meanings (member u escape_free t ps) = field (chars (encode_utf8_all u)) (meaning_of t) (member_meanings ps)

-- a value that means x was read, and these frames are around it
abbrev pub IsRead : Datum → List Frame → At → Type 0
IsRead x o (at_comma t p) = (meaning_of t ≡ x) × (p ≡ o)
IsRead x o _ = ⊥

-- a value that means x is taken
abbrev pub TakesMeaning : Datum → At → At → Type 0
TakesMeaning x a b = (true ≡ takes_value (next_of a)) × IsRead x (value_frames a) b

-- within an array elements that mean xs were read, and after the last one its comma or not; these frames are around
abbrev pub InElements : Items → List Frame → At → Type 0
InElements xs o (at_element ts p) = (meanings_of ts ≡ xs) × (p ≡ o)
InElements xs o (at_comma t (in_array ts ∷ p)) = (meanings_of (snoc ts t) ≡ xs) × (p ≡ o)
InElements xs o _ = ⊥

-- within an object members that mean fs were read, and after the last one its comma or not
abbrev pub InMembers : Fields → List Frame → At → Type 0
InMembers fs o (at_key ps p) = (member_meanings ps ≡ fs) × (p ≡ o)
InMembers fs o (at_comma t (in_object ps u e ∷ p)) = (member_meanings (snoc_member ps u e t) ≡ fs) × (p ≡ o)
InMembers fs o _ = ⊥

-- right after the opening bracket
abbrev pub IsOpened : Kind → List Frame → At → Type 0
IsOpened kind.Array o a = InElements no_item o a
IsOpened kind.Object o a = InMembers no_field o a

-- what is left after the opening bracket is taken, and the whole means x
abbrev pub Finishes : Kind → Datum → At → At → Type 0
Finishes k x a b = (o : List Frame) → IsOpened k o a → IsRead x o b

-- elements, or members, are taken after the opening bracket
abbrev pub TakesElements : Items → At → At → Type 0
TakesElements xs a b = (o : List Frame) → IsOpened kind.Array o a → InElements xs o b

abbrev pub TakesMembers : Fields → At → At → Type 0
TakesMembers fs a b = (o : List Frame) → IsOpened kind.Object o a → InMembers fs o b

-- a value was taken, or the closing bracket
abbrev pub TakesItem : Option ValueRef → Walked → Walked → Type 0
TakesItem None old new = Moved Closes old new
TakesItem (Some v) old new = Moved (TakesMeaning (ref_of v)) old new

-- a key was taken, or the closing brace
abbrev pub TakesKey : Option CowStr → Walked → Walked → Type 0
TakesKey None old new = Moved Closes old new
TakesKey (Some key) old new = Moved (TakesKeyOf (cow_bytes key)) old new

-- the comma after a value was taken, or the closing bracket
abbrev pub TakesPart : Walked → Walked → Bool → Type 0
TakesPart old new true = Moved TakesComma old new
TakesPart old new false = Moved Closes old new
