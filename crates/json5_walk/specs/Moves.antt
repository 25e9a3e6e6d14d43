-- What each token makes of where a walk is.
-- A promise rests on this.
use Rattle.std.specs.Prelude.{◌≡◌, ℕ, ◌≤◌, Bool, true, List, [], ◌∷◌, ◌++◌}
use Rattle.std.specs.Str.{encode_utf8_all}
use Rattle.json5_grammar.specs.Language.Trees.{Tree, depth, array, object, Trees, Members, no_more, no_member}
use Rattle.json5_grammar.specs.Language.Values.{Val}
use Rattle.json5_grammar.specs.Model.Collections.{snoc, snoc_member}
use Rattle.json5_read.specs.declared.brackets.BracketKind.{BracketKind as Kind}
use Rattle.json5_read.specs.declared.brackets.BracketKind.TheVariants as kind
use Rattle.json5_walk.specs.Nexts.{takes_value}
use Rattle.json5_walk.specs.Frames.{Frame, in_array, in_object, At, at_value, at_element, at_key, at_colon, at_comma, next_of, value_frames}

-- blanks
pub data Stays : At → At → Type 0 where
  stays : (a : At) → Stays a a

-- a value in front of x, before y, in which at most so many brackets are open at once
pub data TakesValue (room : ℕ) (x y : List ℕ) : At → At → Type 0 where
  takes : (a : At) (t : Tree) (s : List ℕ) → true ≡ takes_value (next_of a) → x ≡ s ++ y → Val s t → depth t ≤ room → TakesValue room x y a (at_comma t (value_frames a))

-- a value of this tree
pub data TakesTree (t : Tree) : At → At → Type 0 where
  takes_tree : (a : At) → true ≡ takes_value (next_of a) → TakesTree t a (at_comma t (value_frames a))

-- an opening bracket
pub data Opens : Kind → At → At → Type 0 where
  opens_array : (a : At) → true ≡ takes_value (next_of a) → Opens kind.Array a (at_element no_more (value_frames a))
  opens_object : (a : At) → true ≡ takes_value (next_of a) → Opens kind.Object a (at_key no_member (value_frames a))

-- a key, whose text has these bytes
pub data TakesKeyOf (bytes : List ℕ) : At → At → Type 0 where
  takes_key : (ps : Members) (u : List ℕ) (escape_free : Bool) (o : List Frame) → bytes ≡ encode_utf8_all u → TakesKeyOf bytes (at_key ps o) (at_colon ps u escape_free o)

-- a colon
pub data TakesColon : At → At → Type 0 where
  takes_colon : (ps : Members) (u : List ℕ) (escape_free : Bool) (o : List Frame) → TakesColon (at_colon ps u escape_free o) (at_value (in_object ps u escape_free ∷ o))

-- a comma
pub data TakesComma : At → At → Type 0 where
  after_element : (ts : Trees) (t : Tree) (o : List Frame) → TakesComma (at_comma t (in_array ts ∷ o)) (at_element (snoc ts t) o)
  after_member : (ps : Members) (u : List ℕ) (escape_free : Bool) (t : Tree) (o : List Frame) → TakesComma (at_comma t (in_object ps u escape_free ∷ o)) (at_key (snoc_member ps u escape_free t) o)

-- a closing bracket
pub data Closes : At → At → Type 0 where
  closes_elements : (ts : Trees) (o : List Frame) → Closes (at_element ts o) (at_comma (array ts) o)
  closes_array : (ts : Trees) (t : Tree) (o : List Frame) → Closes (at_comma t (in_array ts ∷ o)) (at_comma (array (snoc ts t)) o)
  closes_members : (ps : Members) (o : List Frame) → Closes (at_key ps o) (at_comma (object ps) o)
  closes_object : (ps : Members) (u : List ℕ) (escape_free : Bool) (t : Tree) (o : List Frame) → Closes (at_comma t (in_object ps u escape_free ∷ o)) (at_comma (object (snoc_member ps u escape_free t)) o)

-- ---- up to the value of an entry

-- the comma after the entry before it, or nothing
pub data TakesEntryComma : At → At → Type 0 where
  no_comma : (a : At) → TakesEntryComma a a
  comma : (a b : At) → TakesComma a b → TakesEntryComma a b

-- its key, whose text has these bytes; an element has none
pub data TakesEntryKey (bytes : List ℕ) : At → At → Type 0 where
  no_key : (ts : Trees) (o : List Frame) → bytes ≡ [] → TakesEntryKey bytes (at_element ts o) (at_element ts o)
  key : (ps : Members) (u : List ℕ) (escape_free : Bool) (o : List Frame) → bytes ≡ encode_utf8_all u → TakesEntryKey bytes (at_key ps o) (at_colon ps u escape_free o)

-- the colon after its key
pub data TakesEntryColon : At → At → Type 0 where
  no_colon : (ts : Trees) (o : List Frame) → TakesEntryColon (at_element ts o) (at_element ts o)
  colon : (ps : Members) (u : List ℕ) (escape_free : Bool) (o : List Frame) → TakesEntryColon (at_colon ps u escape_free o) (at_value (in_object ps u escape_free ∷ o))

-- the comma, the key and the colon
pub data TakesFront (bytes : List ℕ) : At → At → Type 0 where
  takes_front : (a b c d : At) → TakesEntryComma a b → TakesEntryKey bytes b c → TakesEntryColon c d → TakesFront bytes a d

-- the closing bracket, after a comma or without
pub data EndsEntries : At → At → Type 0 where
  ends_entries : (a b c : At) → TakesEntryComma a b → Closes b c → EndsEntries a c
