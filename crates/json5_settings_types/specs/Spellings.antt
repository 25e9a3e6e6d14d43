-- Values with the texts that spell them.
-- A promise rests on this.
use Rattle.std.specs.Prelude.{◌≡◌, ℕ, List, Option, Some, string_bytes, IsUtf8}
use Rattle.std.specs.Str.{chars}
use Rattle.json5_de.specs.Convert.{text_of}
use Rattle.json5_de.specs.ConvertLists.{if_some}
use Rattle.json5_de.specs.Refinement.{refined}
use Rattle.json5_ser.specs.EscapeFreeMarks.{marks}
use Rattle.json5_ser.specs.WrittenTrees.{text}
use Rattle.json5_settings_types.specs.declared.spelled.AsSpelled.{AsSpelled}

-- what of such a value counts: of the value, and the text by its bytes
abbrev pub value_and_text : {V M : Type 0} → (V → M) → AsSpelled V → M × List ℕ
value_and_text meaning s = (meaning s.value, string_bytes s.text)

-- what the bytes spell, with them
abbrev pub if_spelled : {M : Type 0} → (List ℕ → Option M) → List ℕ → Option (M × List ℕ)
if_spelled spells bytes = if_some (λ m. (m, bytes)) (spells bytes)

-- what is written of a text that spells something is read as both
abbrev pub SpellingsReadBack : {M : Type 0} → (List ℕ → Option M) → Type 0
SpellingsReadBack {M = M} spells = (bytes : List ℕ) (m : M) → IsUtf8 bytes → spells bytes ≡ Some m → refined text_of (if_spelled spells) (marks (text (chars bytes))) ≡ Some (m, bytes)
