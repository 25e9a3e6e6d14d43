-- Texts that may be paths.
-- A promise rests on this.
use Rattle.std.specs.Prelude.{◌≡◌, ◌||◌, ◌==◌, ◌<◌, ◌≢◌, ℕ, if◌then◌else◌, All, List, length, Option, Some, None, string_bytes, IsUtf8}
use Rattle.std.specs.List.{list_any}
use Rattle.std.specs.Str.{chars}
use Rattle.json5_de.specs.Convert.{text_of}
use Rattle.json5_de.specs.Refinement.{refined}
use Rattle.json5_ser.specs.EscapeFreeMarks.{marks}
use Rattle.json5_ser.specs.WrittenTrees.{text}
use Rattle.json5_settings_types.specs.declared.paths.FilePath.{FilePath}

abbrev pub path_bytes : FilePath → List ℕ
path_bytes p = string_bytes p.text

-- the bytes, where there are some and none is NUL
abbrev pub if_path : List ℕ → Option (List ℕ)
if_path bytes = if (length bytes == 0) || list_any (λ b. b == 0) bytes then None else Some bytes

-- what is written of such a text is read as the same
abbrev pub PathsReadBack : Type 0
PathsReadBack = (bytes : List ℕ) → IsUtf8 bytes → 0 < length bytes → All (λ b. b ≢ 0) bytes → refined text_of if_path (marks (text (chars bytes))) ≡ Some bytes
