-- Identifiers, and the keys of objects.
-- A promise rests on this.
-- JSON5 section 3 (objects), ECMAScript 5.1 section 7.6.
use Rattle.std.specs.Prelude.{◌≡◌, ◌≢◌, ℕ, Bool, true, false, ◌&&◌, ◌||◌, ◌==◌, List, [], ◌∷◌, ◌++◌}
use Rattle.json5_grammar.specs.Language.Characters.{backslash, is_identifier_start, is_identifier_part}
use Rattle.json5_grammar.specs.Language.Strings.{Unicode, Str}

-- an item of a name, its character, whether it is raw
pub data NameItem : List ℕ → ℕ → Bool → Type 0 where
  raw_name : {c : ℕ} → c ≢ backslash → NameItem (c ∷ []) c true
  escaped_name : {e : List ℕ} {n : ℕ} → Unicode e n → NameItem e n false

-- items whose characters may follow a name's first, these characters, and whether all items are raw
pub data NameParts : List ℕ → List ℕ → Bool → Type 0 where
  no_part : NameParts [] [] true
  part : {s v u : List ℕ} {c : ℕ} {p escape_free : Bool} → NameItem v c p → is_identifier_part c ≡ true → NameParts s u escape_free → NameParts (v ++ s) (c ∷ u) (p && escape_free)

pub data Ident : List ℕ → List ℕ → Bool → Type 0 where
  name : {v s u : List ℕ} {c : ℕ} {p escape_free : Bool} → NameItem v c p → is_identifier_start c ≡ true → NameParts s u escape_free → Ident (v ++ s) (c ∷ u) (p && escape_free)

abbrev pub goes_on_name : ℕ → Bool
goes_on_name c = is_identifier_part c || (c == backslash)

-- a key before r, the string that it means, and whether it is escape-free
pub data Key : List ℕ → List ℕ → List ℕ → Bool → Type 0 where
  string_key : {k r u : List ℕ} {escape_free : Bool} → Str k u escape_free → Key k r u escape_free
  name_key : {k r u : List ℕ} {c : ℕ} {escape_free : Bool} → Ident k u escape_free → goes_on_name c ≡ false → Key k (c ∷ r) u escape_free

-- the spelling of some name
abbrev pub IsName : List ℕ → Type 0
IsName s = (u : List ℕ) × (escape_free : Bool) × Ident s u escape_free

-- a name, and r begins with a character that doesn't continue it
pub record EndedName (s u : List ℕ) (escape_free : Bool) (r : List ℕ) : Type 0 where
  pub first : ℕ
  pub rest : List ℕ
  pub split : r ≡ first ∷ rest
  pub is_name : Ident s u escape_free
  pub ends : goes_on_name first ≡ false
