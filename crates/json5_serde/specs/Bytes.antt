-- What is read of bytes and of readers.
-- A promise rests on this.
use Rattle.std.specs.Prelude.{◌≡◌, ℕ, List, Option, Result, Ok, Err, OnOk, IsUtf8}
use Rattle.json5_types.specs.declared.error.Error.{Error}
use Rattle.json5_walk.specs.Walks.{IsDocumentWithin}
use Rattle.json5_io.specs.Bytes.{RefusesBytes}
use Rattle.json5_io.specs.Readers.{AreAll, RefusesReader}

-- at Ok the bytes are a document in UTF-8; bytes that are no UTF-8 are refused where they aren't
abbrev pub ReadsBytes : {A : Type 0} → (limit : ℕ) → List ℕ → Result A Error → Type 0
ReadsBytes limit bytes (Ok value) = IsUtf8 bytes × IsDocumentWithin limit bytes
ReadsBytes limit bytes (Err e) = (IsUtf8 bytes → ⊥) → RefusesBytes bytes e

-- all that was left, if that is known, is a text, which is read only if it is a document; or there is no text
pub data ReadsReader {A : Type 0} (limit : ℕ) (known : Option (List ℕ)) (result : Result A Error) : Type 0 where
  text : (bytes : List ℕ) → AreAll known bytes → IsUtf8 bytes → OnOk result (IsDocumentWithin limit bytes) → ReadsReader limit known result
  no_text : (e : Error) → result ≡ Err e → RefusesReader known e → ReadsReader limit known result
