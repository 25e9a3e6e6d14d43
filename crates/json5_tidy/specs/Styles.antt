-- The usual style, and whether star comments may move.
-- A promise rests on this.
use Rattle.std.specs.Prelude.{Bool, true, false}
use Rattle.json5_tidy.specs.declared.style.LastCommas.TheVariants as commas
use Rattle.json5_tidy.specs.declared.style.LineEnds.TheVariants as line_ends
use Rattle.json5_tidy.specs.declared.style.Stars.{Stars}
use Rattle.json5_tidy.specs.declared.style.Stars.TheVariants as stars
use Rattle.json5_tidy.specs.declared.style.Style.{Style}

abbrev pub usual_style : Style
usual_style = record { indent = 2; width = 80; last_commas = commas.Auto; tab_width = 4; stars = stars.Move; line_ends = line_ends.Own; final_line_end = true }

-- whether the lines of star comments may move
abbrev pub may_move : Stars → Bool
may_move stars.Move = true
may_move stars.Keep = false
