-- The text of a document that sets one member.
-- Private.
use Rattle.std.specs.Prelude.{◌≡◌, ◌⊎◌, ◌++◌, ℕ, List, Result, Ok, Err, codes}
use Rattle.std.specs.Str.Iter.{HasSubslice}
use Rattle.json5_grammar.specs.Language.Blanks.{Blanks}
use Rattle.json5_grammar.specs.Language.Documents.{Doc, max_depth}
use Rattle.json5_grammar.specs.Language.Trees.{Tree}
use Rattle.json5_grammar.specs.Language.Values.{Val}
use Rattle.json5_read.specs.TreeMeanings.{datum_of}
use Rattle.json5_styles.specs.JsonTexts.{json_string}
use Rattle.json5_types.specs.declared.error.Error.{Error}
use Rattle.json5_types.specs.ValueMeanings.{Datum}
use Rattle.json5_settings.specs.Members.{AddsMember, IsGiven, RefusesMember, one_member}
use Rattle.json5_settings.specs.Stacks.{Layer}

-- a value with blanks around it that end with it
pub record IsClosed (x : List ℕ) (t : Tree) : Type 0 where
  pub before : List ℕ
  pub phrase : List ℕ
  pub after : List ℕ
  pub whole : x ≡ before ++ (phrase ++ after)
  pub blank_before : Blanks before
  pub value : Val phrase t
  pub blank_after : Blanks after

-- these characters are no document
abbrev pub IsNoDocument : List ℕ → Type 0
IsNoDocument text = (t : Tree) → Doc max_depth text t → ⊥

-- such a value, of what was given at these keys
abbrev pub IsNested : (keys : List (List ℕ)) → (given x : List ℕ) → Type 0
IsNested keys given x = (t : Tree) × (y : Datum) × IsClosed x t × IsGiven given y × (one_member keys y ≡ datum_of t)

-- an object with one member
abbrev pub member_spelled : (key inner : List ℕ) → List ℕ
member_spelled key inner = codes "{ " ++ (json_string key ++ (codes ": " ++ (inner ++ codes " }")))

-- a member at these keys was added, or it was refused
abbrev pub PutsMember : (name : List ℕ) → (keys : List (List ℕ)) → (value : List ℕ) → (old new : List Layer) → Result (Unit {0}) Error → Type 0
PutsMember name keys value old new (Ok r) = AddsMember name keys value old new
PutsMember name keys value old new (Err e) = (new ≡ old) × RefusesMember value e

-- the text, where it has no `//`; or that and a line feed
abbrev pub ClosesText : (text closed : List ℕ) → Type 0
ClosesText text closed = ((closed ≡ text) × (HasSubslice text (codes "//") → ⊥)) ⊎ (closed ≡ text ++ codes "\n")
