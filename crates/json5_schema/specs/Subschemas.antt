-- Where schemas stand in a schema, and which keywords are known: by drafts 6, 7, 2019-09 and 2020-12.
-- A promise rests on this.
use Rattle.std.specs.Prelude.{◌≡◌, ◌⊎◌, ⊤, ℕ, Bool, true, ◌||◌, nat_eq, List, [], ◌∷◌}
use Rattle.std.specs.List.{list_any, starts_with}
use Rattle.std.specs.Cmp.Lexicographic.{pointwise}
use Rattle.std.specs.Str.{encode_utf8_all}
use lib.Chars.{codes}
use Rattle.json5_types.specs.ValueMeanings.{Datum, array, object, Items, no_item, item, Fields, no_field, field}

-- ---- names, by their bytes

abbrev pub is_any : List (List ℕ) → List ℕ → Bool
is_any names name = list_any (λ known. pointwise nat_eq known name) names

-- the argument is a schema; that of `items` may be one
abbrev pub taking_schema : List (List ℕ)
taking_schema =
    codes "not" ∷ codes "if" ∷ codes "then" ∷ codes "else" ∷ codes "items" ∷ codes "additionalItems" ∷ codes "unevaluatedItems"
    ∷ codes "contains" ∷ codes "additionalProperties" ∷ codes "unevaluatedProperties" ∷ codes "propertyNames" ∷ codes "contentSchema" ∷ []

abbrev pub takes_schema : List ℕ → Bool
takes_schema = is_any taking_schema

-- it is an array of schemas
abbrev pub taking_schemas : List (List ℕ)
taking_schemas =
    codes "allOf" ∷ codes "anyOf" ∷ codes "oneOf" ∷ codes "prefixItems" ∷ codes "items" ∷ []

abbrev pub takes_schemas : List ℕ → Bool
takes_schemas = is_any taking_schemas

-- it is an object of schemas; of `dependencies` some may be arrays of names
abbrev pub taking_named : List (List ℕ)
taking_named =
    codes "properties" ∷ codes "patternProperties" ∷ codes "dependentSchemas" ∷ codes "dependencies" ∷ codes "$defs" ∷ codes "definitions" ∷ []

abbrev pub takes_named : List ℕ → Bool
takes_named = is_any taking_named

-- the keywords of the drafts, and of VS Code the words for its editor
abbrev pub keywords : List (List ℕ)
keywords =
    codes "$schema" ∷ codes "$id" ∷ codes "$ref" ∷ codes "$anchor" ∷ codes "$defs" ∷ codes "definitions" ∷ codes "$comment" ∷ codes "$vocabulary"
    ∷ codes "$dynamicRef" ∷ codes "$dynamicAnchor" ∷ codes "$recursiveRef" ∷ codes "$recursiveAnchor"
    ∷ codes "type" ∷ codes "enum" ∷ codes "const" ∷ codes "multipleOf" ∷ codes "maximum" ∷ codes "exclusiveMaximum" ∷ codes "minimum" ∷ codes "exclusiveMinimum"
    ∷ codes "maxLength" ∷ codes "minLength" ∷ codes "pattern" ∷ codes "maxItems" ∷ codes "minItems" ∷ codes "uniqueItems" ∷ codes "maxContains" ∷ codes "minContains"
    ∷ codes "maxProperties" ∷ codes "minProperties" ∷ codes "required" ∷ codes "dependentRequired"
    ∷ codes "allOf" ∷ codes "anyOf" ∷ codes "oneOf" ∷ codes "not" ∷ codes "if" ∷ codes "then" ∷ codes "else" ∷ codes "dependentSchemas" ∷ codes "dependencies"
    ∷ codes "prefixItems" ∷ codes "items" ∷ codes "additionalItems" ∷ codes "unevaluatedItems" ∷ codes "contains" ∷ codes "properties" ∷ codes "patternProperties"
    ∷ codes "additionalProperties" ∷ codes "unevaluatedProperties" ∷ codes "propertyNames"
    ∷ codes "title" ∷ codes "description" ∷ codes "default" ∷ codes "examples" ∷ codes "deprecated" ∷ codes "readOnly" ∷ codes "writeOnly"
    ∷ codes "format" ∷ codes "contentEncoding" ∷ codes "contentMediaType" ∷ codes "contentSchema"
    ∷ codes "markdownDescription" ∷ codes "enumDescriptions" ∷ codes "markdownEnumDescriptions" ∷ codes "defaultSnippets" ∷ codes "errorMessage"
    ∷ codes "patternErrorMessage" ∷ codes "deprecationMessage" ∷ codes "doNotSuggest" ∷ codes "suggestSortText" ∷ codes "allowComments" ∷ codes "allowTrailingCommas" ∷ []

-- also a name of one's own, which begins with `x-`
abbrev pub is_known : List ℕ → Bool
is_known name = is_any keywords name || starts_with nat_eq name (codes "x-")

-- ---- schemas in a schema

abbrev pub IsElement : Datum → Items → Type 0
IsElement s no_item = ⊥
IsElement s (item x xs) = (s ≡ x) ⊎ IsElement s xs

abbrev pub IsMember : List ℕ → Datum → Fields → Type 0
IsMember name a no_field = ⊥
IsMember name a (field u x fs) = ((name ≡ u) × (a ≡ x)) ⊎ IsMember name a fs

-- also one whose name comes again
abbrev pub HasKeyword : Datum → List ℕ → Datum → Type 0
HasKeyword (object fs) name a = IsMember name a fs
HasKeyword _ name a = ⊥

-- a schema right in the argument of a keyword with this name, by its bytes
pub data StandsIn (name : List ℕ) (a s : Datum) : Type 0 where
  alone : takes_schema name ≡ true → s ≡ a → StandsIn name a s
  element : (xs : Items) → takes_schemas name ≡ true → a ≡ array xs → IsElement s xs → StandsIn name a s
  member : (u : List ℕ) (fs : Fields) → takes_named name ≡ true → a ≡ object fs → IsMember u s fs → StandsIn name a s

-- the schema itself, or one further in
pub data Subschema : Datum → Datum → Type 0 where
  itself : (s : Datum) → Subschema s s
  within : (r a s t : Datum) (name : List ℕ) → HasKeyword r name a → StandsIn (encode_utf8_all name) a s → Subschema s t → Subschema r t

-- each keyword of each of them is known
abbrev pub HasOnlyKeywords : Datum → Type 0
HasOnlyKeywords root = (s a : Datum) (name : List ℕ) → Subschema root s → HasKeyword s name a → is_known (encode_utf8_all name) ≡ true

-- the same of a keyword and of the schemas in its argument
abbrev pub IsKnownThrough : List ℕ → Datum → Type 0
IsKnownThrough name a = (is_known name ≡ true) × ((s : Datum) → StandsIn name a s → HasOnlyKeywords s)

-- the same of the elements, if it has any, and of the members
abbrev pub AllKnownAmong : Datum → Type 0
AllKnownAmong (array xs) = (s : Datum) → IsElement s xs → HasOnlyKeywords s
AllKnownAmong _ = ⊤

abbrev pub AllKnownNamed : Datum → Type 0
AllKnownNamed (object fs) = (u : List ℕ) (s : Datum) → IsMember u s fs → HasOnlyKeywords s
AllKnownNamed _ = ⊤
