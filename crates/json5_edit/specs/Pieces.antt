-- Two texts that differ by a part, and perhaps by a comma before it.
-- A promise rests on this.
use Rattle.std.specs.Prelude.{⊤, ◌≡◌, ◌⊎◌, ℕ, Bool, true, List, [], ◌∷◌, ◌++◌, length}
use Rattle.std.specs.Str.{chars, encode_utf8_all}
use Rattle.json5_edit_style.specs.Comments.{IsLead, IsTrail}
use Rattle.json5_grammar.specs.Language.Blanks.{Blanks, Gap, LastBlanks, Solid}
use Rattle.json5_grammar.specs.Language.Characters.{comma_sign, colon_sign}
use Rattle.json5_grammar.specs.Language.Trees.{Tree}
use Rattle.json5_grammar.specs.Language.Values.{KeyText, Val}
use Rattle.json5_lexemes.specs.Lexemes.{HaveSameLexemes}
use Rattle.json5_read.specs.declared.brackets.BracketKind.{BracketKind as Kind}
use Rattle.json5_read.specs.declared.brackets.BracketKind.TheVariants as kind
use Rattle.json5_walk.specs.Seams.{WholeTokens}
use Rattle.json5_edit.specs.declared.belongings.Lead.{Lead}
use Rattle.json5_edit.specs.declared.belongings.Lead.TheVariants as leads

-- nothing, or a comma between tokens: whole ones come before it, and blanks alone after it
abbrev pub IsCommaBetween : List ℕ → List ℕ → List ℕ → Type 0
IsCommaBetween front comma middle = (comma ≡ []) ⊎ ((comma ≡ comma_sign ∷ []) × WholeTokens true (chars front) × LastBlanks (chars middle))

-- no token and no comment: blanks, and perhaps commas
abbrev pub IsSpace : List ℕ → Type 0
IsSpace x = HaveSameLexemes (chars x) []

-- a spelling of a key
abbrev pub IsKeyText : List ℕ → Type 0
IsKeyText x = (u : List ℕ) × (escape_free : Bool) × KeyText (chars x) u escape_free

-- a key and a colon, with the blanks around the colon
pub data IsName : List ℕ → Type 0 where
  name : {k b w u : List ℕ} {escape_free : Bool} → KeyText k u escape_free → Blanks b → Blanks w → IsName (k ++ (b ++ colon_sign ∷ w))

-- nothing, or blanks and a comma
abbrev pub IsEnd : List ℕ → Type 0
IsEnd x = (x ≡ []) ⊎ ((w : List ℕ) × Blanks w × (x ≡ w ++ comma_sign ∷ []))

-- an entry from its first token to its last: a value, after a key and a colon in an object, and perhaps a comma after it
pub record IsEntryText (x : List ℕ) : Type 0 where
  pub name : List ℕ
  pub value : List ℕ
  pub end : List ℕ
  pub tree : Tree
  pub split : x ≡ name ++ (value ++ end)
  pub is_name : (name ≡ []) ⊎ IsName name
  pub is_value : Val value tree
  pub is_end : IsEnd end

-- the blanks and comments in front of a text, and what follows them
pub record SplitsBlanks (text front rest : List ℕ) : Type 0 where
  pub split : text ≡ front ++ rest
  pub blank : Gap (chars front) (chars rest)
  pub solid : Solid (chars rest)

-- the entry in front of a text, if no blank and no comment comes before it, and what follows it
pub record SplitsEntry (text front rest : List ℕ) : Type 0 where
  pub split : text ≡ front ++ rest
  pub entry : Solid (chars text) → IsEntryText (chars front)

-- between these texts an entry goes, with the comments that belong to it and no others
pub record IsWithComments (before gone after : List ℕ) : Type 0 where
  pub lead : List ℕ
  pub entry : List ℕ
  pub trail : List ℕ
  pub split : gone ≡ lead ++ (entry ++ trail)
  pub is_lead : IsLead (chars before) (chars lead)
  pub is_entry : IsEntryText (chars entry)
  pub is_trail : IsTrail (chars after) (chars trail)

-- what stands before an entry may go with it: where the comments there stay, there is none
abbrev pub MayGo : Lead → List ℕ → Type 0
MayGo leads.Goes x = ⊤
MayGo leads.Stays x = IsSpace x

abbrev pub GoesWith : Lead → List ℕ → List ℕ → List ℕ → Type 0
GoesWith l before gone after = (w : IsWithComments before gone after) × MayGo l w.lead

-- y is x without one entry, the comments that belong to it, and perhaps the comma before it: all other bytes are the same
pub record Cuts (x y : List ℕ) : Type 0 where
  pub front : List ℕ
  pub comma : List ℕ
  pub middle : List ℕ
  pub gone : List ℕ
  pub back : List ℕ
  pub was : x ≡ front ++ (comma ++ (middle ++ (gone ++ back)))
  pub now : y ≡ front ++ (middle ++ back)
  pub is_comma : IsCommaBetween front comma middle
  pub belongs : IsWithComments (front ++ (comma ++ middle)) gone back

-- the same, where the comments before the entry go or stay
abbrev pub CutsWith : Lead → List ℕ → List ℕ → Type 0
CutsWith l x y = (c : Cuts x y) × MayGo l c.belongs.lead

-- what comes before an entry's value: in an object a key and a colon, with no comment, and in an array nothing
abbrev pub IsNameAlone : Kind → List ℕ → Type 0
IsNameAlone kind.Array x = x ≡ []
IsNameAlone kind.Object x = (key colon : List ℕ) × (x ≡ key ++ colon) × IsKeyText key × HaveSameLexemes (chars colon) (colon_sign ∷ [])

-- x is an entry with this spelling of its value, without a comment, and blanks and commas before and after it
pub record IsEntryAlone (k : Kind) (value x : List ℕ) : Type 0 where
  pub lead : List ℕ
  pub name : List ℕ
  pub trail : List ℕ
  pub split : x ≡ lead ++ (name ++ (value ++ trail))
  pub is_lead : IsSpace lead
  pub is_name : IsNameAlone k name
  pub is_trail : IsSpace trail

-- y is x with one part more, an entry with this value alone, and perhaps with a comma before it: all other bytes are the
-- same, but for blanks that go
pub record Grows (k : Kind) (value x y : List ℕ) : Type 0 where
  pub front : List ℕ
  pub middle : List ℕ
  pub gone : List ℕ
  pub back : List ℕ
  pub comma : List ℕ
  pub came : List ℕ
  pub was : x ≡ front ++ (middle ++ (gone ++ back))
  pub now : y ≡ front ++ (comma ++ (middle ++ (came ++ back)))
  pub is_comma : IsCommaBetween front comma middle
  pub blank : IsSpace gone
  pub alone : IsEntryAlone k value came

-- x spells the key whose text has these bytes
abbrev pub SpellsKey : List ℕ → List ℕ → Type 0
SpellsKey key x = (u : List ℕ) × (escape_free : Bool) × KeyText (chars x) u escape_free × (encode_utf8_all u ≡ key)

-- x is a key and what follows it
abbrev pub SplitsKey : List ℕ → List ℕ → List ℕ → Type 0
SplitsKey x key rest = (x ≡ key ++ rest) × IsKeyText key

-- y is x with another key in the place of one: all other bytes are the same
pub record Respells (x y : List ℕ) : Type 0 where
  pub front : List ℕ
  pub gone : List ℕ
  pub came : List ℕ
  pub back : List ℕ
  pub was : x ≡ front ++ (gone ++ back)
  pub now : y ≡ front ++ (came ++ back)
  pub old_key : IsKeyText gone
  pub new_key : IsKeyText came

-- y is x with other comments before the offset, which belong to the entry there, in the place of those that did: all other
-- bytes are the same
pub record Recomments (at : ℕ) (x y : List ℕ) : Type 0 where
  pub front : List ℕ
  pub gone : List ℕ
  pub came : List ℕ
  pub back : List ℕ
  pub was : x ≡ front ++ (gone ++ back)
  pub now : y ≡ front ++ (came ++ back)
  pub before : length (front ++ gone) ≡ at
  pub old_lead : IsLead (chars front) (chars gone)
  pub new_lead : IsLead (chars front) (chars came)
