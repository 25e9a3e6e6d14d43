-- How lines begin. Private clauses alone cite it.
-- Private.
use Rattle.std.specs.Prelude.{◌≡◌, ℕ, Bool, if◌then◌else◌, List, ◌++◌, replicate}
use Rattle.std.specs.Str.{chars}
use Rattle.json5_styles.specs.Blanks.{blank_of}
use Rattle.json5_styles.specs.Layouts.{line_in}
use Rattle.json5_styles.specs.Styles.{comma_if}
use Rattle.json5_styles.specs.declared.layout.Layout.{Layout}
use Rattle.json5_styles.specs.declared.lines.Line.{Line}

-- what is written where it begins, after a comma if one is due
abbrev pub begun : Bool → Line → List ℕ
begun due l = chars (if due then l.next.now else l.first.now) ++ replicate l.more (blank_of l.blank)

-- a line within so many brackets begins so
abbrev pub BeginsLine : Line → Layout → ℕ → Type 0
BeginsLine line layout depth = (due : Bool) → begun due line ≡ comma_if due ++ line_in layout depth
