-- Layouts: how lines begin. A style is a layout with a spelling of strings and keys, that of JSON5 or that of JSON.
-- A promise rests on this.
use Rattle.std.specs.Prelude.{ℕ, ◌*◌, Bool, true, false, List, [], ◌∷◌, replicate}
use Rattle.json5_grammar.specs.Language.Characters.{line_feed, space, tab}
use Rattle.json5_grammar.specs.Written.Quoting.{quoted_text, key_text}
use Rattle.json5_types.specs.ValueMeanings.{Datum}
use Rattle.json5_styles.specs.declared.layout.Layout.{Layout}
use Rattle.json5_styles.specs.declared.layout.Layout.TheVariants as layout
use Rattle.json5_styles.specs.declared.layout.Form.{Form}
use Rattle.json5_styles.specs.declared.layout.Spelling.{Spelling}
use Rattle.json5_styles.specs.declared.layout.Spelling.TheVariants as spelling
use Rattle.json5_styles.specs.Styles.{Style, laid}
use Rattle.json5_styles.specs.JsonTexts.{json_string}

-- a line feed and what indents so many levels; nothing where all is on one line
abbrev pub line_in : Layout → ℕ → List ℕ
line_in layout.Compact d = []
line_in (layout.Spaces n) d = line_feed ∷ replicate (n * d) space
line_in layout.Tabs d = line_feed ∷ replicate d tab

abbrev pub is_compact : Layout → Bool
is_compact layout.Compact = true
is_compact (layout.Spaces n) = false
is_compact layout.Tabs = false

abbrev pub gap_in : Layout → List ℕ
gap_in layout.Compact = []
gap_in (layout.Spaces n) = space ∷ []
gap_in layout.Tabs = space ∷ []

-- only JSON5 has a comma after the last element or member, and not on one line
abbrev pub has_last_comma : Spelling → Layout → Bool
has_last_comma spelling.Json l = false
has_last_comma spelling.Json5 layout.Compact = false
has_last_comma spelling.Json5 (layout.Spaces n) = true
has_last_comma spelling.Json5 layout.Tabs = true

abbrev pub string_in : Spelling → List ℕ → List ℕ
string_in spelling.Json5 = quoted_text
string_in spelling.Json = json_string

-- JSON's keys are strings
abbrev pub key_in : Spelling → List ℕ → List ℕ
key_in spelling.Json5 = key_text
key_in spelling.Json = json_string

abbrev pub style_of : Spelling → Layout → Style
style_of s l = record { line = line_in l; gap = gap_in l; last_comma = has_last_comma s l; string = string_in s; key = key_in s }

-- the whole text of a value
abbrev pub laid_out : Layout → Datum → List ℕ
laid_out l = laid (style_of spelling.Json5 l) 0

abbrev pub json_text : Layout → Datum → List ℕ
json_text l = laid (style_of spelling.Json l) 0

-- ---- a part of it within so many brackets. Private clauses alone cite these.

abbrev pub laid_in : Form → ℕ → Datum → List ℕ
laid_in f = laid (style_of f.spelling f.layout)
