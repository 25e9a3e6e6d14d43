-- Where a document has what is likely a slip.
-- A promise rests on this.
use Rattle.std.specs.Prelude.{◌≡◌, ◌⊎◌, ℕ, ◌+◌, Bool, true, false, List, [], ◌∷◌, ◌++◌, nat_eq, map, take, All, Option, Some}
use Rattle.std.specs.BTreeSet.{BTreeSet, contains_by}
use Rattle.std.specs.Cmp.Lexicographic.{pointwise, slice_cmp}
use Rattle.std.specs.List.{list_any}
use Rattle.std.specs.Ordering.{nat_cmp}
use Rattle.std.specs.Str.{chars, encode_utf8_all, IsCharBoundary}
use Rattle.json5_grammar.specs.Faults.Positions.{position_after}
use Rattle.json5_grammar.specs.Language.Documents.{Doc, max_depth}
use Rattle.json5_grammar.specs.Language.Names.{Key}
use Rattle.json5_grammar.specs.Language.Trees.{Tree, null, boolean, number, text, array, object, Trees, Members, no_more, more, no_member, member}
use Rattle.json5_grammar.specs.Language.Values.{Val}
use Rattle.json5_tokens.specs.Outcome.{bytes_in}
use Rattle.json5_types.specs.declared.error.Error.{Error}
use Rattle.json5_types.specs.Errors.{IsCustomAt}
use Rattle.json5_types.specs.Cows.{cow_bytes}
use Rattle.json5_types.specs.declared.cow_str.CowStr.{CowStr}
use Rattle.json5_tokens.specs.Cursor.{IsOutOfMemory}
use Rattle.json5_read.specs.DocumentReads.{IsRefused}
use Rattle.json5_read.specs.declared.brackets.BracketKind.{BracketKind as Kind}
use Rattle.json5_read.specs.declared.brackets.BracketKind.TheVariants as kind
use Rattle.json5_walk.specs.declared.entry.EntryKey.{EntryKey}
use Rattle.json5_walk.specs.Frames.{Frame, At, at_key, at_comma, next_of, value_frames}
use Rattle.json5_walk.specs.Nexts.{takes_value}
use Rattle.json5_walk.specs.Walks.{Front, IsAt, Moved, PassesValue, Trail, Walked}
use Rattle.json5_edit.specs.Entries.{members}
use Rattle.json5_edit.specs.Seeks.{opened}
use Rattle.json5_settings.specs.Slips.{HasSlip}
use Rattle.json5_settings.specs.declared.slips.Slip.{Slip}
use Rattle.json5_settings.specs.declared.slips.Slip.TheVariants as slip
use Rattle.json5_settings.specs.declared.warned.Warning.{Warning}

-- ---- keys that come again

-- the keys of members, in UTF-8
abbrev pub names : Members → List (List ℕ)
names ps = map (λ e. e.0) (members ps)

abbrev pub is_among : List ℕ → List (List ℕ) → Bool
is_among key known = list_any (λ k. pointwise nat_eq k key) known

abbrev pub one_if : Bool → ℕ
one_if true = 1
one_if false = 0

abbrev mutual
  -- how many keys there are that a member before theirs in the same object has
  pub repeats : Tree → ℕ
  repeats (array ts) = repeats_in ts
  repeats (object ps) = repeats_after [] ps
  repeats null = 0
  repeats (boolean b) = 0
  repeats (number n) = 0
  repeats (text u escape_free) = 0

  pub repeats_in : Trees → ℕ
  repeats_in no_more = 0
  repeats_in (more t ts) = repeats t + repeats_in ts

  -- so many in these members and in their values, after members with those keys
  pub repeats_after : List (List ℕ) → Members → ℕ
  repeats_after known no_member = 0
  repeats_after known (member u escape_free t ps) = one_if (is_among (encode_utf8_all u) known) + (repeats t + repeats_after (known ++ encode_utf8_all u ∷ []) ps)

-- ---- places

-- this is left of the text after the offset; what comes before goes on from there: whatever does so makes it a document
pub record IsThere (limit : ℕ) (bytes : List ℕ) (offset : ℕ) (there : At) (left : List ℕ) : Type 0 where
  pub front : List ℕ
  pub split : chars bytes ≡ front ++ left
  pub starts : offset ≡ bytes_in front
  pub goes : Front limit left front there

-- there is a key that a member before it in the object has
abbrev pub IsRepeated : ℕ → List ℕ → ℕ → Type 0
IsRepeated limit bytes offset = (ps : Members) × (o : List Frame) × (key : List ℕ) × (left : List ℕ) × (u : List ℕ) × (escape_free : Bool)
    × IsThere limit bytes offset (at_key ps o) (key ++ left) × Key key left u escape_free × (is_among (encode_utf8_all u) (names ps) ≡ true)

-- there is a value whose spelling has this
abbrev pub IsSpelledSo : Slip → ℕ → List ℕ → ℕ → Type 0
IsSpelledSo s limit bytes offset = (there : At) × (spelled : List ℕ) × (left : List ℕ) × (t : Tree)
    × IsThere limit bytes offset there (chars spelled ++ left) × (true ≡ takes_value (next_of there)) × Val (chars spelled) t × HasSlip spelled s

abbrev pub HasSlipAt : Slip → ℕ → List ℕ → ℕ → Type 0
HasSlipAt slip.RepeatedKey limit bytes offset = IsRepeated limit bytes offset
HasSlipAt slip.IdleEscape limit bytes offset = IsSpelledSo slip.IdleEscape limit bytes offset
HasSlipAt slip.DrivePath limit bytes offset = IsSpelledSo slip.DrivePath limit bytes offset

abbrev pub IsWarning : ℕ → List ℕ → Warning → Type 0
IsWarning limit bytes w = HasSlipAt w.slip limit bytes w.offset

abbrev pub is_repeat : Slip → Bool
is_repeat slip.RepeatedKey = true
is_repeat slip.IdleEscape = false
is_repeat slip.DrivePath = false

abbrev pub repeats_told : List Warning → ℕ
repeats_told [] = 0
repeats_told (w ∷ ws) = one_if (is_repeat w.slip) + repeats_told ws

-- there are new warnings, each of a place in the text, and so many of them are of keys
pub record Tells (limit : ℕ) (bytes : List ℕ) (count : ℕ) (found after : List Warning) : Type 0 where
  pub told : List Warning
  pub grown : after ≡ found ++ told
  pub each : All (IsWarning limit bytes) told
  pub all : repeats_told told ≡ count

-- The text is a document, each warning is of a place in it, and as many are of keys as come again in its objects.
abbrev pub AreWarnings : List ℕ → List Warning → Type 0
AreWarnings bytes warnings = (t : Tree) × Doc max_depth (chars bytes) t × Tells max_depth bytes (repeats t) [] warnings

-- refused as reading the text is, or no memory is left
abbrev pub RefusesReading : List ℕ → Error → Type 0
RefusesReading bytes e = IsOutOfMemory e ⊎ IsRefused (chars bytes) e

-- a custom fault at this offset, where a character begins there
abbrev pub IsFaultAt : List ℕ → ℕ → Error → Type 0
IsFaultAt bytes offset e = IsCharBoundary bytes offset → IsCustomAt (Some (position_after (chars (take offset bytes)))) e

-- ---- private clauses cite these

-- a value was passed, and all in it is told
pub record Looks (old new : Walked) (found after : List Warning) : Type 0 where
  pub text : new.text ≡ old.text
  pub limit : new.limit ≡ old.limit
  pub leads : (s : Trail) → IsAt old s → (t : Tree) × IsAt new (record { now = at_comma t (value_frames s.now); marked = s.marked }) × Tells old.limit old.text (repeats t) found after

-- a bracket of this kind that was just opened was passed, and all in it is told
pub record LooksInto (k : Kind) (old new : Walked) (found after : List Warning) : Type 0 where
  pub text : new.text ≡ old.text
  pub limit : new.limit ≡ old.limit
  pub leads : (o : List Frame) (m : Option (List Frame)) → IsAt old (record { now = opened k o; marked = m }) → (t : Tree) × IsAt new (record { now = at_comma t o; marked = m }) × Tells old.limit old.text (repeats t) found after

-- a value was passed, and what its spelling has is told
pub record LooksAt (old new : Walked) (found after : List Warning) : Type 0 where
  pub passed : Moved (PassesValue old new) old new
  pub tells : (s : Trail) → IsAt old s → Tells old.limit old.text 0 found after

-- the set has these keys
abbrev pub HasKeys : BTreeSet CowStr → List (List ℕ) → Type 0
HasKeys s known = (q : CowStr) → contains_by (λ k. slice_cmp nat_cmp (cow_bytes q) (cow_bytes k)) s ≡ is_among (cow_bytes q) known

abbrev pub told_if : Bool → ℕ → List Warning
told_if true start = record { offset = start; slip = slip.RepeatedKey } ∷ []
told_if false start = []

-- a key of an object came to those that the set has, and is told if it is among them
abbrev pub NotesKey : Kind → EntryKey → (seen now : BTreeSet CowStr) → (found after : List Warning) → Type 0
NotesKey kind.Array key seen now found after = (now ≡ seen) × (after ≡ found)
NotesKey kind.Object key seen now found after = (known : List (List ℕ)) → HasKeys seen known → HasKeys now (known ++ cow_bytes key.text ∷ [])
    × (after ≡ found ++ told_if (is_among (cow_bytes key.text) known) key.start)
