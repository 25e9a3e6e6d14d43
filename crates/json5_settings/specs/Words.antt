-- The keys that the name of a variable means.
-- A promise rests on this.
use Rattle.std.specs.Prelude.{ℕ, Bool, true, false, if◌then◌else◌, not, ◌||◌, ◌&&◌, ◌==◌, nat_eq, List, [], ◌∷◌, ◌++◌, Option, Some, None, option_and_then, unwrap_or}
use Rattle.std.specs.Char.{to_ascii_lowercase}
use Rattle.std.specs.Cmp.Lexicographic.{pointwise}
use Rattle.std.specs.List.{list_any}
use Rattle.std.specs.Str.{chars}
use Rattle.json5_grammar.specs.Language.Numbers.{is_empty}
use Rattle.json5_types.specs.ValueKinds.{members_of}
use Rattle.json5_types.specs.ValueLookups.{named_of}
use Rattle.json5_types.specs.ValueMeanings.{Datum, Fields, no_field, field}

abbrev pub underscore : ℕ
underscore = 0x5F

abbrev pub dash : ℕ
dash = 0x2D

-- ---- words

abbrev pub in_front : ℕ → List (List ℕ) → List (List ℕ)
in_front c [] = (c ∷ []) ∷ []
in_front c (word ∷ words) = (c ∷ word) ∷ words

-- the words of a name, parted by two underscores
abbrev pub words_in : List ℕ → List (List ℕ)
words_in [] = [] ∷ []
words_in (c ∷ []) = (c ∷ []) ∷ []
words_in (c ∷ d ∷ s) = if (c == underscore) && (d == underscore) then [] ∷ words_in s else in_front c (words_in (d ∷ s))

abbrev pub has_empty_word : List ℕ → Bool
has_empty_word name = list_any is_empty (words_in name)

-- ---- keys

-- a mark that is left out
abbrev pub is_dropped : (marks : Bool) → ℕ → Bool
is_dropped marks c = not marks && ((c == underscore) || (c == dash))

abbrev pub lowered : (marks : Bool) → ℕ → List ℕ
lowered marks c = if is_dropped marks c then [] else to_ascii_lowercase c ∷ []

-- in lower case, with the marks `_` and `-` or without
abbrev pub lower : (marks : Bool) → List ℕ → List ℕ
lower marks [] = []
lower marks (c ∷ s) = lowered marks c ++ lower marks s

-- the first key that differs from the word in case, `_` and `-` alone
abbrev pub key_like : List ℕ → Fields → Option (List ℕ)
key_like word no_field = None
key_like word (field u x fs) = if pointwise nat_eq (lower false u) (lower false word) then Some u else key_like word fs

-- it, where there is a value that has one; else the word in lower case
abbrev pub key_meant : Option Datum → List ℕ → List ℕ
key_meant place word = unwrap_or (option_and_then (λ x. key_like word (members_of x)) place) (lower true word)

-- the keys that words mean one within another, the outermost in a value if there is one
abbrev pub keys_meant : Option Datum → List (List ℕ) → List (List ℕ)
keys_meant place [] = []
keys_meant place (word ∷ words) =
    let key = key_meant place (chars word) in
    key ∷ keys_meant (option_and_then (named_of key) place) words
