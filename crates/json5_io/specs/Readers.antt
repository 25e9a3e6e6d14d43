-- What is read of a reader, of which these bytes are left if they are known.
-- A promise rests on this.
use Rattle.std.specs.Prelude.{◌≡◌, ◌⊎◌, ℕ, List, Option, Some, None, IfSome, Result, Ok, Err, IsUtf8, String, string_bytes, codes}
use Rattle.std.specs.declared.alloc.Global.{Global}
use Rattle.std.specs.Str.{chars}
use Rattle.json5_grammar.specs.Language.Documents.{max_depth}
use Rattle.json5_types.specs.declared.error.Error.{Error}
use Rattle.json5_types.specs.declared.value.Value.{Value}
use Rattle.json5_types.specs.Errors.{custom, SaysAt, LacksMemory}
use Rattle.json5_read.specs.DocumentReads.{ReadsText}
use Rattle.json5_io.specs.Bytes.{IsNotUtf8}

-- these are all bytes that were left
abbrev pub AreAll : Option (List ℕ) → List ℕ → Type 0
AreAll known bytes = IfSome known (λ all. bytes ≡ all)

abbrev pub HoldsAll : Option (List ℕ) → String Global → Type 0
HoldsAll known s = AreAll known (string_bytes s)

-- a read failed, which is told apart from a fault of what was read
abbrev pub FailsRead : Error → Type 0
FailsRead e = SaysAt (custom (codes "failed read")) None e

abbrev pub IsReadFault : Error → Type 0
IsReadFault e = FailsRead e ⊎ LacksMemory e

-- a read failed, the bytes aren't UTF-8, or memory was refused
pub data RefusesReader (known : Option (List ℕ)) (e : Error) : Type 0 where
  by_reader : FailsRead e → RefusesReader known e
  by_bytes : (bytes : List ℕ) → AreAll known bytes → (IsUtf8 bytes → ⊥) → IsNotUtf8 bytes e → RefusesReader known e
  by_memory : LacksMemory e → RefusesReader known e

-- the bytes are a text, which is read as a document; or there is none
pub data ReadsReader (known : Option (List ℕ)) (result : Result Value Error) : Type 0 where
  document : (bytes : List ℕ) → AreAll known bytes → IsUtf8 bytes → ReadsText max_depth (chars bytes) result → ReadsReader known result
  refused : (e : Error) → result ≡ Err e → RefusesReader known e → ReadsReader known result
