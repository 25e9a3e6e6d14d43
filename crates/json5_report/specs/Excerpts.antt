-- What is printed of the line at fault.
-- A promise rests on this.
use Rattle.std.specs.Prelude.{◌++◌, ℕ, List, codes, string_bytes}
use Rattle.json5_report.specs.declared.excerpt.Excerpt.{Excerpt}
use Rattle.json5_report.specs.Painted.{painted_text}

abbrev pub excerpt_text : Excerpt → List ℕ
excerpt_text e =
    codes "\n" ++ string_bytes e.margin ++ codes "\n" ++ string_bytes e.numbered ++ string_bytes e.line
    ++ codes "\n" ++ string_bytes e.margin ++ string_bytes e.marks

-- blue is 34, and red is 31
abbrev pub coloured_excerpt_text : Excerpt → List ℕ
coloured_excerpt_text e =
    codes "\n" ++ painted_text 34 (string_bytes e.margin) ++ codes "\n" ++ painted_text 34 (string_bytes e.numbered) ++ string_bytes e.line
    ++ codes "\n" ++ painted_text 34 (string_bytes e.margin) ++ painted_text 31 (string_bytes e.marks)
