-- Documents one after another, and values a line each.
-- A promise rests on this.
use Rattle.std.specs.Prelude.{◌≡◌, ℕ, true, List, [], ◌∷◌, ◌++◌}
use Rattle.std.specs.Str.{chars, encode_utf8_all}
use Rattle.json5_grammar.specs.Language.Blanks.{LastBlanks}
use Rattle.json5_grammar.specs.Language.Characters.{line_feed}
use Rattle.json5_styles.specs.declared.layout.Layout.TheVariants as layout
use Rattle.json5_styles.specs.JsonTexts.{is_json}
use Rattle.json5_styles.specs.Layouts.{json_text}
use Rattle.json5_styles.specs.WholeTexts.{RefusesText}
use Rattle.json5_types.specs.ValueLookups.{fits}
use Rattle.json5_types.specs.ValueMeanings.{value_of}
use Rattle.json5_types.specs.declared.error.Error.{Error}
use Rattle.json5_types.specs.declared.value.Value.{Value}
use Rattle.json5_tokens.specs.Cursor.{Cursor}
use Rattle.json5_convert.specs.Streams.{ReadsFront, RefusesNext}

-- the value as JSON on one line, and a line feed
abbrev pub line_of : Value → List ℕ
line_of v = encode_utf8_all (json_text layout.Compact (value_of v)) ++ line_feed ∷ []

-- one after another
abbrev pub lines_of : List Value → List ℕ
lines_of [] = []
lines_of (v ∷ vs) = line_of v ++ lines_of vs

-- the first value that JSON can't be written of is refused so, or memory ran out before it
pub data RefusesLines : List Value → Error → Type 0 where
  here : (v : Value) (vs : List Value) (e : Error) → RefusesText (fits (value_of v)) (is_json (value_of v)) e → RefusesLines (v ∷ vs) e
  later : (v : Value) (vs : List Value) (e : Error) → fits (value_of v) ≡ true → is_json (value_of v) ≡ true → RefusesLines vs e → RefusesLines (v ∷ vs) e

-- the text is these documents, one after another, and blanks at the end
pub data AreDocuments : List ℕ → List Value → Type 0 where
  none : (x : List ℕ) → LastBlanks x → AreDocuments x []
  next : (x y : List ℕ) (v : Value) (vs : List Value) → ReadsFront x y v → AreDocuments y vs → AreDocuments x (v ∷ vs)

abbrev pub at_start : (text : List ℕ) → Cursor
at_start text = record { input = chars text; unread = chars text }

-- a document has the fault that is told, behind others that have none, or memory ran out
pub data RefusesDocuments : Cursor → Error → Type 0 where
  first : (s : Cursor) (e : Error) → RefusesNext s e → RefusesDocuments s e
  behind : (s : Cursor) (y : List ℕ) (v : Value) (e : Error) → ReadsFront s.unread y v → RefusesDocuments (record { input = s.input; unread = y }) e → RefusesDocuments s e
