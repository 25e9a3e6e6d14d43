-- What is written of a type that says nothing of its values.
-- A promise rests on this.
use Rattle.std.specs.Prelude.{◌⊎◌, ℕ, List, Option, None}
use Rattle.std.specs.Str.{chars}
use Rattle.std.specs.Io.KnownBytes.{Appends, Keeps}
use Rattle.json5_grammar.specs.Language.Documents.{Doc}
use Rattle.json5_types.specs.declared.error.Error.{Error}
use Rattle.json5_types.specs.Errors.{failed_write, SaysAt}
use Rattle.json5_write.specs.EscapeFreeMarks.{marks}
use Rattle.json5_write.specs.Out.{text_within}
use Rattle.json5_write.specs.Pieces.{AppendsFront}
use Rattle.json5_write.specs.WholeOutputs.{IsText}
use Rattle.json5_write.specs.WrittenTrees.{Written}

-- the bytes are the written text of some tree, and the document of that tree, with no more brackets open at once
pub record IsWrittenWithin (limit : ℕ) (bytes : List ℕ) : Type 0 where
  pub tree : Written
  pub text : IsText (text_within limit tree) bytes
  pub document : Doc limit (chars bytes) (marks tree)

-- the writer got such bytes, where its bytes are known
pub record WritesSome (limit : ℕ) (old new : Option (List ℕ)) : Type 0 where
  pub bytes : List ℕ
  pub appended : Appends old new bytes
  pub written : IsWrittenWithin limit bytes

-- the writer failed, or took no bytes, and has a prefix of such bytes
pub record BreaksSome (limit : ℕ) (old new : Option (List ℕ)) (e : Error) : Type 0 where
  pub bytes : List ℕ
  pub written : IsWrittenWithin limit bytes
  pub front : AppendsFront old new bytes
  pub says : SaysAt failed_write None e

-- nothing was written, or a write failed
abbrev pub WritesNone : ℕ → Option (List ℕ) → Option (List ℕ) → Error → Type 0
WritesNone limit old new e = Keeps old new ⊎ BreaksSome limit old new e
