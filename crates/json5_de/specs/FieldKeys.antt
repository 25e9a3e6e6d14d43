-- The key of a member, while a struct is read.
-- A promise rests on this.
use Rattle.std.specs.Prelude.{ℕ, Bool, false, List, Option, Some, None, Result, IfSome, String, string_bytes, slice_range}
use Rattle.std.specs.Str.{chars}
use Rattle.json5_types.specs.declared.error.Error.{Error}
use Rattle.json5_tokens.specs.declared.short_texts.Span.{Span}
use Rattle.json5_tokens.specs.declared.text_token.TextToken.{TextToken}
use Rattle.json5_tokens.specs.TextTokens.{IsSliceAt, Spells}
use Rattle.json5_read.specs.Brackets.{curly}
use Rattle.json5_de.specs.State.{State}
use Rattle.json5_de.specs.Convert.{every_text}
use Rattle.json5_de.specs.AccessCalls.{AtEntry}
use Rattle.json5_de.specs.KeyKinds.{RefusedAsKey, string_key}
use Rattle.json5_de.specs.KeyPlaces.{BeginsIfGiven}
use Rattle.json5_de.specs.ObjectFaults.{ReadsKeyOfMember}
use Rattle.json5_de.specs.Objects.{CompletesEscapeFreeMember, ReadsKeyFree, bare_map}
use Rattle.json5_de.specs.ShortWays.{filled_if_given}
use Rattle.json5_de.specs.Lending.{ReadsNextKey, map_state_of}
use Rattle.json5_de.specs.declared.map.MapAccess.{MapAccess}

-- a part of the text, or a text of its own
abbrev pub field_key_of : {A : Type 0} → List ℕ → Option Span → String A → List ℕ
field_key_of text (Some span) owned = slice_range text span.start span.end
field_key_of text None owned = string_bytes owned

-- characters of the text are between these offsets, if any are given
abbrev pub StandsIn : List ℕ → Option Span → Type 0
StandsIn text found = IfSome found (λ span. (u : List ℕ) × IsSliceAt (chars text) u span.start span.end)

-- the token spells a text of these characters
abbrev pub IsSpelledIn : List ℕ → TextToken → Type 0
IsSpelledIn text token = (u : List ℕ) × (escape_free : Bool) × Spells (chars text) u escape_free token

abbrev pub field_key_text : List ℕ → List ℕ
field_key_text k = k

-- the next key of an object is read as that of a `String` is, and begins so many bytes after the start;
-- one without an escape takes no memory
pub record ReadsFieldKey (comma_due : Bool) (old new : State) (field_key : List ℕ) (start : ℕ) (result : Result Bool Error) : Type 0 where
  pub key : ReadsKeyOfMember field_key_text every_text (RefusedAsKey string_key) comma_due old new (filled_if_given field_key result)
  pub no_memory : CompletesEscapeFreeMember (bare_map old comma_due false) result
  pub begins : BeginsIfGiven field_key start new.input new.unread result

-- the key of the member that begins here is read so, from wherever the reader went to it
abbrev pub ReadsFieldKeyAtEntry : State → State → List ℕ → ℕ → Result Bool Error → Type 0
ReadsFieldKeyAtEntry old new field_key start result = (comma_due : Bool) (from : State) → AtEntry curly comma_due from old → ReadsFieldKey comma_due from new field_key start result

-- an access reads its next key so
pub record ReadsNextFieldKey {I : Type 0} (old new : MapAccess I) (field_key : List ℕ) (result : Result Bool Error) : Type 0 where
  pub key : ReadsNextKey field_key_text every_text (RefusedAsKey string_key) old new (filled_if_given field_key result)
  pub no_memory : ReadsKeyFree (map_state_of old) result
