-- Where a key stands in the text of an object.
-- Private.
use denote.Ref.{Bor}
use Rattle.std.specs.Prelude.{◌≡◌, ℕ, Bool, false, List, [], ◌++◌}
use Rattle.std.specs.Str.{chars, IsUtf8}
use Rattle.json5_grammar.specs.Language.Blanks.{Blanks, Gap}
use Rattle.json5_grammar.specs.Language.Names.{Key}
use Rattle.json5_grammar.specs.Language.Trees.{Tree, Members, member}
use Rattle.json5_grammar.specs.Model.Collections.{MembersTail}
use Rattle.json5_lexemes.specs.Plain.{KeepsPlain}
use Rattle.json5_tokens.specs.Outcome.{bytes_in}
use Rattle.json5_edit.specs.Changes.{ChangesBy}
use Rattle.json5_edit.specs.Comparing.{IsRenamed}
use Rattle.json5_edit.specs.Pieces.{Respells}
use Rattle.json5_edit.specs.Places.{IsValue}
use Rattle.json5_edit.specs.Spots.{HasEntry}
use Rattle.json5_edit.specs.declared.places.ValueSpan.{ValueSpan}
use Rattle.json5_edit.specs.declared.paths.Step.TheVariants as step

-- the text is an object that fits in the room, and its last member with the key begins at the offset
abbrev pub KeyStarts : ℕ → List ℕ → List ℕ → ℕ → Type 0
KeyStarts room key text start = (k : Bor (List ℕ)) × (k.now ≡ key) × HasEntry (step.Key k) room text start

-- the text goes on with members and the closing brace
abbrev pub BeginsWithMember : List ℕ → Type 0
BeginsWithMember text = (u : List ℕ) × (escape_free : Bool) × (t : Tree) × (ps : Members) × MembersTail (member u escape_free t ps) false (chars text) []

-- what stands before and after a key that is in front, after blanks
pub record TakesKeyAhead (text blank back : List ℕ) : Type 0 where
  pub gone : List ℕ
  pub split : text ≡ blank ++ (gone ++ back)
  pub blank_text : IsUtf8 blank
  pub is_text : IsUtf8 gone
  pub is_blank : Blanks (chars blank)
  pub meaning : List ℕ
  pub escape_free : Bool
  pub key : Key (chars gone) (chars back) meaning escape_free

-- the span is that of a key in the text, after blanks
pub record KeySpan (text : List ℕ) (span : ValueSpan) : Type 0 where
  pub blank : List ℕ
  pub gone : List ℕ
  pub back : List ℕ
  pub split : chars text ≡ blank ++ (gone ++ back)
  pub begins : span.start ≡ bytes_in blank
  pub ends : span.end ≡ bytes_in (blank ++ gone)
  pub is_blank : Gap blank (gone ++ back)
  pub meaning : List ℕ
  pub escape_free : Bool
  pub key : Key gone back meaning escape_free

-- the new text is that of an object that fits in the room, with another key for its last member that has this one; it is
-- as plain as the old one
abbrev pub Rekeys : ℕ → List ℕ → List ℕ → List ℕ → List ℕ → Type 0
Rekeys room name key old new = ChangesBy (IsRenamed name key) old new × Respells old new × IsValue room (chars new) × KeepsPlain old new
