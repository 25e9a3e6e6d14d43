-- Where a path leads in a text.
-- A promise rests on this.
use Rattle.std.specs.Prelude.{◌≡◌, ◌⊎◌, ◌||◌, ◌==◌, ℕ, ◌≤◌, ◌-◌, Bool, true, false, List, ◌++◌, length, Option, Some, None, MatchOption, option_map}
use Rattle.std.specs.Str.{chars, encode_utf8_all}
use Rattle.json5_grammar.specs.Language.Blanks.{LastBlanks}
use Rattle.json5_grammar.specs.Language.Characters.{comma_sign}
use Rattle.json5_grammar.specs.Language.Documents.{Doc, max_depth}
use Rattle.json5_grammar.specs.Language.Trees.{Tree, depth}
use Rattle.json5_grammar.specs.Language.Values.{Val}
use Rattle.json5_grammar.specs.Model.Collections.{IsSign}
use Rattle.json5_lexemes.specs.Plain.{is_closing}
use Rattle.json5_tokens.specs.Outcome.{bytes_in}
use Rattle.json5_walk.specs.Seams.{WholeTokens}
use Rattle.json5_walk.specs.declared.place.Place.{Place}
use Rattle.json5_edit.specs.Parts.{part, put, positions_of}
use Rattle.json5_edit.specs.declared.places.ValueSpan.{ValueSpan}
use Rattle.json5_edit.specs.declared.paths.Step.{Step}

-- these characters are a value, without blanks or comments around it, in which so many brackets may be open at once
abbrev pub IsValue : ℕ → List ℕ → Type 0
IsValue room x = (t : Tree) × Val x t × (depth t ≤ room)

-- the same of a text in bytes, where a limit allows so many
abbrev pub Fits : ℕ → List ℕ → Type 0
Fits room text = (room ≤ max_depth) × IsValue room (chars text)

-- the place is `old` between these characters of the text
pub record IsPart (text : List ℕ) (p : Place) (before old after : List ℕ) : Type 0 where
  pub whole : chars text ≡ before ++ (old ++ after)
  pub starts : p.start ≡ bytes_in before
  pub ends : p.end ≡ bytes_in (before ++ old)

abbrev pub HasPlace : List ℕ → Place → Type 0
HasPlace text p = (before old after : List ℕ) × IsPart text p before old after

-- a comma or a closing bracket
abbrev pub ends_entry : ℕ → Bool
ends_entry c = (c == comma_sign) || is_closing c

-- x goes on with blanks and such a sign
abbrev pub EndsEntry : List ℕ → Type 0
EndsEntry x = (c : ℕ) × (r : List ℕ) × (ends_entry c ≡ true) × IsSign c x r

-- x goes on with what may follow a value: blanks and such a sign, or the last blanks of the text
abbrev pub EndsValue : List ℕ → Type 0
EndsValue x = EndsEntry x ⊎ LastBlanks x

-- the place is the value in the document of the tree w that the path leads to, between whole tokens, its room is what
-- the brackets around it leave, and with any other value in its place the text is a document of the tree with that part
-- alone replaced
pub record IsPlace (text : List ℕ) (path : List Step) (w : Tree) (p : Place) : Type 0 where
  pub before : List ℕ
  pub old : List ℕ
  pub after : List ℕ
  pub cut : IsPart text p before old after
  pub passed : WholeTokens false before
  pub ends : EndsValue after
  pub tree : Tree
  pub value : Val old tree
  pub positions : List ℕ
  pub room : p.room ≡ max_depth - length positions
  pub led : positions_of path w ≡ Some positions
  pub there : part positions w ≡ Some tree
  pub welcome : (new : List ℕ) (t : Tree) → Val new t → depth t ≤ p.room → Doc max_depth (before ++ (new ++ after)) (put positions w t)

-- the text is a document, and the place is where the path leads in it: there is one exactly where it leads somewhere
pub record Leads (text : List ℕ) (path : List Step) (place : Option Place) : Type 0 where
  pub tree : Tree
  pub document : Doc max_depth (chars text) tree
  pub placed : MatchOption place (positions_of path tree ≡ None) (IsPlace text path tree)

-- the text is a document, and the value that the path leads to in it is spelled so
pub record IsPartAt (text : List ℕ) (path : List Step) (spelled : List ℕ) : Type 0 where
  pub tree : Tree
  pub document : Doc max_depth (chars text) tree
  pub place : Place
  pub there : IsPlace text path tree place
  pub same : spelled ≡ encode_utf8_all there.old

-- the text is a document, and the path leads nowhere in it
abbrev pub LeadsNowhere : List ℕ → List Step → Type 0
LeadsNowhere text path = (t : Tree) × Doc max_depth (chars text) t × (positions_of path t ≡ None)

abbrev pub span_of : Place → ValueSpan
span_of p = record { start = p.start; end = p.end }

-- the span is that place's
abbrev pub LeadsTo : List ℕ → List Step → Option ValueSpan → Type 0
LeadsTo text path span = (place : Option Place) × Leads text path place × (span ≡ option_map span_of place)
