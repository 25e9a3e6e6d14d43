-- What a program says of itself.
-- A promise rests on this.
use Rattle.std.specs.Prelude.{ℕ, List, Option}
use Rattle.std.specs.Io.KnownBytes.{Appends}
use lib.Chars.{codes}
use Rattle.json5_write.specs.Pieces.{AppendsFront}
use Rattle.cli_files.specs.declared.failure.Failure.TheVariants as failure
use Rattle.cli_files.specs.Reports.{report_line}

-- a text about the program was written; or a prefix of it, and that output can't be written was said
pub data SaysText (text : List ℕ) (output written errors : Option (List ℕ)) : Option (List ℕ) → ℕ → Type 0 where
  says : Appends output written text → SaysText text output written errors errors 0
  stops : {said : Option (List ℕ)} → AppendsFront output written text
      → AppendsFront errors said (report_line (codes "output") failure.Write) → SaysText text output written errors said 2
