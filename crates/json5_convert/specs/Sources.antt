-- What was read of a reader and isn't given yet.
-- A promise rests on this.
use Rattle.std.specs.Prelude.{◌≡◌, ◌≤◌, ℕ, Bool, true, List, length, take, drop, Option, option_map, IsUtf8, codes, Result, Ok, Err}
use Rattle.std.specs.Io.KnownBytes.{Keeps, IsAtEnd, prepend_known}
use Rattle.std.specs.Str.{chars}
use Rattle.json5_types.specs.declared.error.Error.{Error}
use Rattle.json5_types.specs.Errors.{custom, kind_of}
use Rattle.json5_tokens.specs.Cursor.{IsOutOfMemory}

-- the text that was read, the bytes that come behind it, if they are known, and whether there are none
pub record Held : Type 0 where
  pub text : List ℕ
  pub behind : Option (List ℕ)
  pub has_ended : Bool

-- the bytes that are to be given, if they are known
abbrev pub stream_of : Held → Option (List ℕ)
stream_of h = prepend_known h.text h.behind

-- the characters that are to be read, if they are known
abbrev pub unread_of : Held → Option (List ℕ)
unread_of h = option_map chars (stream_of h)

-- what is to be given stays
abbrev pub KeepsStream : (old new : Held) → Type 0
KeepsStream old new = Keeps (stream_of old) (stream_of new)

-- what is given of the text ends between characters, and nothing comes behind where it has ended
pub record IsCut (text : List ℕ) (given : ℕ) (behind : Option (List ℕ)) (has_ended : Bool) : Type 0 where
  pub within : given ≤ length text
  pub is_text : IsUtf8 (drop given text)
  pub ends : has_ended ≡ true → IsAtEnd behind

-- so many bytes in front are a text
pub record IsTextFront (bytes : List ℕ) (count : ℕ) : Type 0 where
  pub within : count ≤ length bytes
  pub is_text : IsUtf8 (take count bytes)

-- memory was refused, a read failed, or what was read is no text
pub data StopsReading (e : Error) : Type 0 where
  by_memory : IsOutOfMemory e → StopsReading e
  by_reader : kind_of e ≡ custom (codes "failed read") → StopsReading e
  by_bytes : kind_of e ≡ custom (codes "not UTF-8") → StopsReading e

-- more was read of the same stream, or reading was stopped
abbrev pub ReadsOn : {A : Type 0} → (old new : Held) → Result A Error → Type 0
ReadsOn old new (Ok done) = KeepsStream old new
ReadsOn old new (Err e) = StopsReading e
