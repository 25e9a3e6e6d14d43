-- What a spelling asks for.
-- A promise rests on this.
use Rattle.std.specs.Prelude.{Bool, true, false, ◌&&◌}
use Rattle.json5_convert.specs.declared.spelling.Blanks.{Blanks}
use Rattle.json5_convert.specs.declared.spelling.Blanks.TheVariants as blanks
use Rattle.json5_convert.specs.declared.spelling.Comments.{Comments}
use Rattle.json5_convert.specs.declared.spelling.Comments.TheVariants as comments
use Rattle.json5_convert.specs.declared.spelling.Keys.{Keys}
use Rattle.json5_convert.specs.declared.spelling.Keys.TheVariants as keys
use Rattle.json5_convert.specs.declared.spelling.LastCommas.{LastCommas}
use Rattle.json5_convert.specs.declared.spelling.LastCommas.TheVariants as commas
use Rattle.json5_convert.specs.declared.spelling.Numbers.{Numbers}
use Rattle.json5_convert.specs.declared.spelling.Numbers.TheVariants as numbers
use Rattle.json5_convert.specs.declared.spelling.Quotes.{Quotes}
use Rattle.json5_convert.specs.declared.spelling.Quotes.TheVariants as quotes
use Rattle.json5_convert.specs.declared.spelling.Spelling.{Spelling}

abbrev pub as_json : Spelling
as_json = record { strings = quotes.Json; keys = keys.Quoted; numbers = numbers.Json; last_commas = commas.Never; blanks = blanks.Json; comments = comments.Kept }

abbrev pub as_json5 : Spelling
as_json5 = record { strings = quotes.Fewest; keys = keys.Bare; numbers = numbers.Own; last_commas = commas.Own; blanks = blanks.Own; comments = comments.Kept }

-- the same without comments
abbrev pub uncommented : Spelling → Spelling
uncommented s = record s { comments = comments.Dropped }

abbrev pub are_json_quotes : Quotes → Bool
are_json_quotes quotes.Json = true
are_json_quotes _ = false

abbrev pub are_quoted : Keys → Bool
are_quoted keys.Quoted = true
are_quoted _ = false

abbrev pub are_json_numbers : Numbers → Bool
are_json_numbers numbers.Json = true
are_json_numbers _ = false

abbrev pub are_never : LastCommas → Bool
are_never commas.Never = true
are_never _ = false

abbrev pub are_json_blanks : Blanks → Bool
are_json_blanks blanks.Json = true
are_json_blanks _ = false

abbrev pub are_kept : Comments → Bool
are_kept comments.Kept = true
are_kept _ = false

-- infinity and not-a-number are refused
abbrev pub has_json_numbers : Spelling → Bool
has_json_numbers s = are_json_numbers s.numbers

-- comments may stay
abbrev pub has_comments : Spelling → Bool
has_comments s = are_kept s.comments

-- all but comments is as JSON has it
abbrev pub asks_json : Spelling → Bool
asks_json s = are_json_quotes s.strings && (are_quoted s.keys && (are_json_numbers s.numbers && (are_never s.last_commas && are_json_blanks s.blanks)))
