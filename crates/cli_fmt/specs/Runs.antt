-- What a run reads and writes.
-- A promise rests on this.
use Rattle.std.specs.Prelude.{◌≡◌, ℕ, List, [], ◌∷◌, ◌++◌, Option, IfSome, Result, Ok, Err}
use Rattle.std.specs.Str.{chars, encode_utf8_all, IsUtf8}
use Rattle.std.specs.Io.KnownBytes.{Appends, Keeps}
use Rattle.json5_grammar.specs.Language.Characters.{line_feed}
use Rattle.json5_read.specs.TreeMeanings.{datum_of}
use Rattle.json5_grammar.specs.Language.Documents.{Doc, max_depth}
use Rattle.json5_write.specs.EscapeFreeMarks.{unmarked}
use Rattle.json5_write.specs.Out.{whole, written_text}
use Rattle.json5_write.specs.Pieces.{AppendsFront}
use Rattle.json5_grammar.specs.Language.Trees.{Tree}
use Rattle.json5_types.specs.declared.value.Value.{Value}
use Rattle.json5_types.specs.ValueMeanings.{value_of}
use Rattle.json5_write.specs.WholeOutputs.{IsText}
use Rattle.json5_write.specs.WrittenTrees.{Written}
use Rattle.cli_files.specs.Inputs.{ReadFailure}
use Rattle.cli_fmt.specs.Formats.{Formats}
use Rattle.cli_files.specs.declared.failure.Failure.{Failure}
use Rattle.cli_files.specs.declared.failure.Failure.TheVariants as failure

abbrev pub with_line_feed : List ℕ → List ℕ
with_line_feed text = text ++ line_feed ∷ []

-- the output of a tree, in UTF-8
abbrev pub written_bytes : Written → List ℕ
written_bytes t = encode_utf8_all (written_text t).text

-- the bytes are UTF-8, and the formatted document was written, and one LF
abbrev pub WritesFormatted : Option (List ℕ) → Option (List ℕ) → List ℕ → Type 0
WritesFormatted old new bytes = IsUtf8 bytes × ((output : List ℕ) × Formats bytes output × Appends old new (with_line_feed output))

-- the bytes are a document, and a prefix of the output of its tree without marks and one LF was written
abbrev pub BeginsFormatted : Option (List ℕ) → Option (List ℕ) → List ℕ → Type 0
BeginsFormatted old new bytes = IsUtf8 bytes × ((t : Tree) × Doc max_depth (chars bytes) t × AppendsFront old new (with_line_feed (written_bytes (unmarked t))))

-- the output of a tree was written, and one LF; if the output is whole, a failed write leaves a prefix of both
abbrev pub WritesLine : {A E : Type 0} → Written → Option (List ℕ) → Option (List ℕ) → Result A E → Type 0
WritesLine t old new (Ok x) = IsText (written_text t) (written_bytes t) × Appends old new (with_line_feed (written_bytes t))
WritesLine t old new (Err e) = (written_text t).stop ≡ whole → AppendsFront old new (with_line_feed (written_bytes t))

-- all that was read is a document, and the value means the same as its tree
pub record HoldsValue (input : Option (List ℕ)) (v : Value) : Type 0 where
  pub bytes : List ℕ
  pub all : IfSome input (λ known. bytes ≡ known)
  pub utf8 : IsUtf8 bytes
  pub tree : Tree
  pub document : Doc max_depth (chars bytes) tree
  pub stands_for : value_of v ≡ datum_of tree

-- the bytes are UTF-8 and a document
abbrev pub HoldsDocument : List ℕ → Type 0
HoldsDocument bytes = IsUtf8 bytes × ((t : Tree) × Doc max_depth (chars bytes) t)

-- why a run ended early; nothing was written unless a write failed
abbrev pub RunFailure : Option (List ℕ) → Option (List ℕ) → Option (List ℕ) → Failure → Type 0
RunFailure input old new failure.Write = IfSome input (BeginsFormatted old new)
RunFailure input old new s = ReadFailure input s × Keeps old new
