-- What a read gives, and why an input isn't read to its end.
-- A promise rests on this.
use Rattle.std.specs.Prelude.{⊤, ℕ, List, Option, IfSome}
use Rattle.std.specs.Str.{IsUtf8, chars}
use Rattle.json5_grammar.specs.Language.Documents.{Doc, max_depth}
use Rattle.json5_grammar.specs.Language.Trees.{Tree}
use Rattle.json5_types.specs.declared.error.Error.{Error}
use Rattle.json5_tokens.specs.Cursor.{IsOutOfMemory}
use Rattle.json5_read.specs.DocumentReads.{IsRefused}
use Rattle.cli_files.specs.declared.failure.Failure.{Failure}
use Rattle.cli_files.specs.declared.failure.Failure.TheVariants as failure

-- a read failed, or memory ran out
abbrev pub IsReadFault : Failure → Type 0
IsReadFault failure.Read = ⊤
IsReadFault failure.NoMemory = ⊤
IsReadFault _ = ⊥

-- why the input wasn't read as a string
abbrev pub NoText : Option (List ℕ) → Failure → Type 0
NoText input failure.NotUtf8 = IfSome input (λ bytes. ¬ (IsUtf8 bytes))
NoText input failure.NoMemory = ⊤
NoText input failure.Read = ⊤
NoText input _ = ⊥

-- the input is refused so
abbrev pub RefusesFormat : List ℕ → Error → Type 0
RefusesFormat text e = IsRefused (chars text) e

-- the bytes are UTF-8 and refused so, and they are a document only if memory ran out
abbrev pub RefusesInput : Error → List ℕ → Type 0
RefusesInput e bytes = IsUtf8 bytes × RefusesFormat bytes e × ((t : Tree) → Doc max_depth (chars bytes) t → IsOutOfMemory e)

-- why no document was read
abbrev pub ReadFailure : Option (List ℕ) → Failure → Type 0
ReadFailure input (failure.Text e) = ¬ (IsOutOfMemory e) × IfSome input (RefusesInput e)
ReadFailure input s = NoText input s
