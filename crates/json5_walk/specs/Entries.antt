-- The entries of an open bracket, as a walk comes to them.
-- A promise rests on this.
use Rattle.std.specs.Prelude.{◌≡◌, Bool, true, false, [], ◌∷◌, Option, None, Some}
use Rattle.json5_grammar.specs.Language.Blanks.{Solid}
use Rattle.json5_types.specs.declared.cow_str.CowStr.{CowStr}
use Rattle.json5_types.specs.Cows.{cow_bytes}
use Rattle.json5_walk.specs.declared.entry.EntryKey.{EntryKey}
use Rattle.json5_walk.specs.declared.next.Next.{Next}
use Rattle.json5_walk.specs.declared.next.Next.TheVariants as next
use Rattle.json5_walk.specs.Frames.{At, at_value, at_element, at_key, at_colon, at_comma}
use Rattle.json5_walk.specs.Moves.{TakesEntryComma, TakesEntryKey, TakesEntryColon, EndsEntries}
use Rattle.json5_walk.specs.Walks.{Walked, Trail, IsAt, Moved, TookKey, offset_in, AwaitsValue, NotClosed, NotParted}

-- within a bracket, where its closing bracket may come
abbrev pub is_inside : At → Bool
is_inside (at_value o) = false
is_inside (at_element ts o) = true
is_inside (at_key ps o) = true
is_inside (at_colon ps u escape_free o) = false
is_inside (at_comma t []) = false
is_inside (at_comma t (f ∷ o)) = true

-- an entry or the closing bracket must come
pub record AwaitsEntry (v : Walked) : Type 0 where
  pub trail : Trail
  pub is_at : IsAt v trail
  pub inside : is_inside trail.now ≡ true

-- an entry must come here: blanks and the comma were taken, and the closing bracket doesn't follow
pub record EntryStands (v : Walked) : Type 0 where
  pub awaits : AwaitsEntry v
  pub solid : Solid v.unread
  pub unparted : NotParted v
  pub unclosed : NotClosed v

-- the key's spelling was taken and no blank after it; where an element is due, nothing
abbrev pub TookName : Next → CowStr → Walked → Walked → Type 0
TookName next.Element t old new = new.unread ≡ old.unread
TookName _ t old new = TookKey t old new

-- the key of an entry was taken, whose spelling stands from `start` to `end`, and the colon after it; in an array nothing
pub record TakesKey (old new : Walked) (key : EntryKey) : Type 0 where
  pub start : key.start ≡ offset_in old
  pub named : Walked
  pub name : Moved (TakesEntryKey (cow_bytes key.text)) old named
  pub spelled : TookName old.next key.text old named
  pub end : key.end ≡ offset_in named
  pub colon : Moved TakesEntryColon named new
  pub awaits : EntryStands old → AwaitsValue new

-- what comes before the value of an entry was taken
pub record BeginsEntry (old new : Walked) (key : EntryKey) : Type 0 where
  pub first : Walked
  pub parted : Moved TakesEntryComma old first
  pub solid : Solid first.unread
  pub stands : AwaitsEntry old → EntryStands first
  pub keyed : TakesKey first new key

-- the same, or the closing bracket was taken
abbrev pub BeginsOrEnds : Walked → Walked → Option EntryKey → Type 0
BeginsOrEnds old new None = Moved EndsEntries old new
BeginsOrEnds old new (Some key) = BeginsEntry old new key
