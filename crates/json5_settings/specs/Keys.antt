-- How the keys of a member are found.
-- Private.
use denote.Ref.{Bor}
use Rattle.std.specs.declared.alloc.Global.{Global}
use Rattle.std.specs.Prelude.{◌≡◌, ◌≢◌, ◌<◌, ◌∷◌, [], ⊤, ℕ, true, false, List, Option, Some, None, IfSome, Result, Ok, Err, String, Vec, length, map, string_bytes, option_and_then, option_map}
use Rattle.std.specs.Str.{chars}
use Rattle.json5_types.specs.Errors.{LacksMemory}
use Rattle.json5_types.specs.declared.value.Value.{Value}
use Rattle.json5_types.specs.ValueLookups.{named_of}
use Rattle.json5_types.specs.ValueMeanings.{Datum, Fields, value_of}
use Rattle.json5_settings.specs.Words.{has_empty_word, key_like, keys_meant, words_in}
use Rattle.json5_settings.specs.declared.faults.SettingError.{SettingError}
use Rattle.json5_settings.specs.declared.faults.SettingError.TheVariants as error

abbrev pub key_texts : List (String Global) → List (List ℕ)
key_texts keys = map (λ key. chars (string_bytes key)) keys

-- where there is a value, what it means
abbrev pub place_of : Option (Bor Value) → Option Datum
place_of place = option_map (λ v. value_of v.now) place

-- the words that are left
abbrev pub words_left : Option (Bor (List ℕ)) → List (List ℕ)
words_left None = []
words_left (Some s) = words_in s.now

-- the keys that the words mean; or why they mean none
abbrev pub MeansKeys : Datum → List ℕ → Result (Vec (String Global) Global) SettingError → Type 0
MeansKeys x words (Ok keys) = (key_texts keys.items ≡ keys_meant (Some x) (words_in words)) × (has_empty_word words ≡ false)
MeansKeys x words (Err error.NoMember) = has_empty_word words ≡ true
MeansKeys x words (Err (error.Text e)) = LacksMemory e
MeansKeys x words (Err (error.Path e)) = ⊥

-- there are keys; or memory ran out for them
abbrev pub HasKeys : Result (Vec (String Global) Global) SettingError → Type 0
HasKeys (Ok keys) = key_texts keys.items ≢ []
HasKeys (Err (error.Text e)) = LacksMemory e
HasKeys (Err error.NoMember) = ⊤
HasKeys (Err (error.Path e)) = ⊥

-- a name is a word and the others
abbrev pub SplitsWord : (name word : List ℕ) → Option (Bor (List ℕ)) → Type 0
SplitsWord name word others = (words_in name ≡ word ∷ words_left others) × IfSome others (λ s. length s.now < length name)

-- the member with this key, where there is a value
abbrev pub member_in : List ℕ → Option Datum → Option Datum
member_in key place = option_and_then (named_of key) place

abbrev pub FindsKey : List ℕ → Fields → Option (Bor (List ℕ)) → Type 0
FindsKey word fields found = option_map (λ key. chars key.now) found ≡ key_like word fields
