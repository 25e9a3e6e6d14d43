-- The style as words choose it.
-- A promise rests on this.
use Rattle.std.specs.Prelude.{ℕ, None, Option, Some}
use Rattle.json5_tidy.specs.declared.style.LastCommas.TheVariants as commas
use Rattle.json5_tidy.specs.declared.style.Stars.TheVariants as stars
use Rattle.cli_tidy.specs.declared.styles.Chooser.TheVariants as choosers
use Rattle.cli_tidy.specs.declared.styles.ChosenSize.{ChosenSize}
use Rattle.cli_tidy.specs.declared.styles.ChosenStyle.{ChosenStyle}

abbrev pub nothing_asked : ChosenStyle
nothing_asked = record { indent = None; width = None; last_commas = commas.Auto; stars = stars.Move; tab_width = None; line_ends = None; final_line_end = None }

-- words choose this size
abbrev pub asked : ℕ → Option ChosenSize
asked n = Some (record { size = n; by = choosers.Words })
