-- The entries of a collection, its elements or its members, and how a walk passes them.
-- A promise rests on this.
use Rattle.std.specs.Prelude.{◌≡◌, ℕ, true, List, [], ◌∷◌, ◌++◌, Option, Some, None}
use Rattle.std.specs.Str.{chars, encode_utf8_all}
use Rattle.json5_grammar.specs.Language.Documents.{max_depth}
use Rattle.json5_grammar.specs.Language.Trees.{Tree, null, boolean, number, text, array, object, Trees, Members, no_more, more, no_member, member}
use Rattle.json5_grammar.specs.Language.Values.{Val}
use Rattle.json5_grammar.specs.Model.Collections.{snoc, snoc_member}
use Rattle.json5_types.specs.Cows.{cow_bytes}
use Rattle.json5_read.specs.declared.brackets.BracketKind.{BracketKind as Kind}
use Rattle.json5_read.specs.declared.brackets.BracketKind.TheVariants as kind
use Rattle.json5_walk.specs.Nexts.{takes_value}
use Rattle.json5_walk.specs.Frames.{Frame, in_array, in_object, At, at_value, at_element, at_key, at_colon, at_comma, next_of, value_frames}
use Rattle.json5_walk.specs.Entries.{is_inside}
use Rattle.json5_walk.specs.Moves.{EndsEntries}
use Rattle.json5_walk.specs.Walks.{Walked, IsAt, Moved}
use Rattle.json5_edit.specs.declared.entries.Entry.{Entry}

-- ---- trees

abbrev pub elements : Trees → List (List ℕ × Tree)
elements no_more = []
elements (more t ts) = ([], t) ∷ elements ts

abbrev pub members : Members → List (List ℕ × Tree)
members no_member = []
members (member u escape_free t ps) = (encode_utf8_all u, t) ∷ members ps

-- the entries of a collection, in order: each key in UTF-8, empty in an array, and each value
abbrev pub entries : Tree → List (List ℕ × Tree)
entries (array ts) = elements ts
entries (object ps) = members ps
entries null = []
entries (boolean b) = []
entries (number n) = []
entries (text u escape_free) = []

-- what collection it is, if it is one
abbrev pub kind_of : Tree → Option Kind
kind_of (array ts) = Some kind.Array
kind_of (object ps) = Some kind.Object
kind_of null = None
kind_of (boolean b) = None
kind_of (number n) = None
kind_of (text u escape_free) = None

abbrev pub empty_of : Kind → Tree
empty_of kind.Array = array no_more
empty_of kind.Object = object no_member

-- ---- walks

-- a value whose spelling has these bytes
pub data TakesText (bytes : List ℕ) : At → At → Type 0 where
  takes_text : (a : At) (t : Tree) → true ≡ takes_value (next_of a) → Val (chars bytes) t → TakesText bytes a (at_comma t (value_frames a))

-- the innermost collection as it would be, closed here
abbrev pub read_in : At → Tree
read_in (at_value o) = null
read_in (at_element ts o) = array ts
read_in (at_key ps o) = object ps
read_in (at_colon ps u escape_free o) = object ps
read_in (at_comma t []) = t
read_in (at_comma t (in_array ts ∷ o)) = array (snoc ts t)
read_in (at_comma t (in_object ps u escape_free ∷ o)) = object (snoc_member ps u escape_free t)

-- the frames around it
abbrev pub around : At → List Frame
around (at_value o) = o
around (at_element ts o) = o
around (at_key ps o) = o
around (at_colon ps u escape_free o) = o
around (at_comma t []) = []
around (at_comma t (f ∷ o)) = o

-- an entry with this key and this spelling of its value, and the comma before it, if there is one
pub record TakesEntry (key value : List ℕ) (a b : At) : Type 0 where
  pub tree : Tree
  pub is_value : Val (chars value) tree
  pub inside : is_inside b ≡ true
  pub one_more : entries (read_in b) ≡ entries (read_in a) ++ ((key, tree) ∷ [])
  pub same_kind : kind_of (read_in b) ≡ kind_of (read_in a)
  pub same_frames : around b ≡ around a

-- the entry that was passed, or the closing bracket
abbrev pub PassesEntry : Walked → Walked → Option Entry → Type 0
PassesEntry old new None = Moved EndsEntries old new
PassesEntry old new (Some e) = Moved (TakesEntry (cow_bytes e.key) e.value.now) old new

-- the walk over the text x is within the outermost collection, which would be t, closed here
pub record Holds (x : List ℕ) (t : Tree) (v : Walked) : Type 0 where
  pub text : v.text ≡ x
  pub limit : v.limit ≡ max_depth
  pub now : At
  pub marked : Option (List Frame)
  pub is_at : IsAt v (record { now = now; marked = marked })
  pub inside : is_inside now ≡ true
  pub read : read_in now ≡ t
  pub outermost : around now ≡ []

-- the walk over the text x is after the outermost collection t
pub record Closed (x : List ℕ) (t : Tree) (v : Walked) : Type 0 where
  pub text : v.text ≡ x
  pub limit : v.limit ≡ max_depth
  pub marked : Option (List Frame)
  pub is_at : IsAt v (record { now = at_comma t []; marked = marked })
