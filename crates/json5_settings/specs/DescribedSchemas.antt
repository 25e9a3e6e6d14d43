-- The schema of each kind of field, and what it is that a schema says of a type that is read.
-- A promise rests on this.
use Rattle.std.specs.Prelude.{◌≡◌, ◌≤◌, ◌^◌, ◌⊎◌, ⊤, codes, ℕ, Bool, true, false, not, ◌&&◌, if◌then◌else◌, List, [], ◌∷◌, length, ℤ, Option, Some, None, is_some}
use Rattle.std.specs.Str.{IsUtf8, all_scalars, chars}
use Rattle.json5_grammar.specs.Language.Documents.{Doc, max_depth}
use Rattle.json5_grammar.specs.Language.Numbers.{InWhole, Number, whole, decimal}
use Rattle.json5_grammar.specs.Language.Trees.{Tree, Trees, Members, no_more, more, no_member, member}
use Rattle.json5_grammar.specs.Language.Trees as tree
use Rattle.json5_grammar.specs.Model.Collections.{object_of}
use Rattle.json5_styles.specs.Json.{JsonText}
use Rattle.json5_styles.specs.JsonTexts.{is_json}
use Rattle.json5_styles.specs.LaidBack.{ReadsAs}
use Rattle.json5_styles.specs.WholeTexts.{RefusesText}
use Rattle.json5_types.specs.Errors.{LacksMemory}
use Rattle.json5_types.specs.ValueLookups.{fits, last_named}
use Rattle.json5_types.specs.declared.error.Error.{Error}
use Rattle.json5_types.specs.ValueMeanings.{Datum, boolean, number, text, array, object, Items, no_item, item, Fields, no_field, field}
use Rattle.json5_numbers.specs.Sameness.{is_named}
use Rattle.json5_read.specs.TreeMeanings.{datum_of, fields_of}
use Rattle.json5_de.specs.Convert.{signed_below}
use Rattle.json5_de.specs.Refinement.{refined}
use Rattle.json5_fields.specs.Layouts.{Layout}
use Rattle.json5_fields.specs.Only.{only_these}
use Rattle.json5_settings_types.specs.Bounds.{if_within}
use Rattle.json5_schema.specs.Conformance.{Answers, Conforms, conforming, is_integral, unfolded}

-- ---- the schema of each kind, by the members of its object; each name by its bytes

abbrev pub keyword : List ℕ → Datum → Fields → Fields
keyword name argument rest = field (chars name) argument rest

abbrev pub named : List ℕ → Datum
named name = text (chars name)

abbrev pub of_kind : List ℕ → Fields → Fields
of_kind name rest = keyword (codes "type") (named name) rest

abbrev pub null_schema : Fields
null_schema = of_kind (codes "null") no_field

abbrev pub boolean_schema : Fields
boolean_schema = of_kind (codes "boolean") no_field

abbrev pub text_schema : Fields
text_schema = of_kind (codes "string") no_field

-- a number of any kind
abbrev pub number_schema : Fields
number_schema = of_kind (codes "number") no_field

-- a whole number within these bounds
abbrev pub whole_schema : (low high : ℤ) → Fields
whole_schema low high = of_kind (codes "integer") (keyword (codes "minimum") (number (whole low)) (keyword (codes "maximum") (number (whole high)) no_field))

-- a list of what this schema says
abbrev pub list_schema : Fields → Fields
list_schema element = of_kind (codes "array") (keyword (codes "items") (object element) no_field)

-- a map from any names to what this schema says
abbrev pub map_schema : Fields → Fields
map_schema value = of_kind (codes "object") (keyword (codes "additionalProperties") (object value) no_field)

-- null, or what this schema says
abbrev pub option_schema : Fields → Fields
option_schema some = keyword (codes "anyOf") (array (item (object null_schema) (item (object some) no_item))) no_field

-- any value
abbrev pub any_schema : Fields
any_schema = no_field

abbrev pub texts_of : List (List ℕ) → Items
texts_of [] = no_item
texts_of (n ∷ ns) = item (named n) (texts_of ns)

-- one of these names
abbrev pub names_schema : List (List ℕ) → Fields
names_schema names = keyword (codes "enum") (array (texts_of names)) no_field

-- ---- structs

-- what is said of a field beside its name: the schema of its values, and whether it has to be there
pub record FieldKind : Type 0 where
  pub keywords : Fields
  pub is_required : Bool

-- a field alone
abbrev pub must_be_there : Fields → List FieldKind
must_be_there keywords = record { keywords = keywords; is_required = true } ∷ []

abbrev pub may_be_missing : Fields → List FieldKind
may_be_missing keywords = record { keywords = keywords; is_required = false } ∷ []

-- the schema of each field
abbrev pub properties_of : List (List ℕ) → List FieldKind → Fields
properties_of (n ∷ ns) (k ∷ ks) = keyword n (object k.keywords) (properties_of ns ks)
properties_of _ _ = no_field

-- the names of those that have to be there
abbrev pub required_of : List (List ℕ) → List FieldKind → Items
required_of (n ∷ ns) (k ∷ ks) = if k.is_required then item (named n) (required_of ns ks) else required_of ns ks
required_of _ _ = no_item

abbrev pub members_keywords : (properties : Fields) → (required : Items) → Fields → Fields
members_keywords properties required rest = of_kind (codes "object") (keyword (codes "properties") (object properties) (keyword (codes "required") (array required) rest))

abbrev pub fields_keywords : List (List ℕ) → List FieldKind → Fields → Fields
fields_keywords names kinds rest = members_keywords (properties_of names kinds) (required_of names kinds) rest

-- an object of these fields alone
abbrev pub struct_schema : List (List ℕ) → List FieldKind → Fields
struct_schema names kinds = fields_keywords names kinds (keyword (codes "additionalProperties") (boolean false) no_field)

-- an object of these fields and of any others
abbrev pub open_struct_schema : List (List ℕ) → List FieldKind → Fields
open_struct_schema names kinds = fields_keywords names kinds no_field

-- ---- trees

abbrev pub IsSoundNumber : Number → Type 0
IsSoundNumber (whole z) = InWhole z
IsSoundNumber (decimal d) = ⊤

-- as each tree of a text is: keys and strings are characters, and whole numbers are in range
abbrev mutual
  pub Sound : Tree → Type 0
  Sound tree.null = ⊤
  Sound (tree.boolean b) = ⊤
  Sound (tree.number n) = IsSoundNumber n
  Sound (tree.text u escape_free) = all_scalars u ≡ true
  Sound (tree.array ts) = SoundElements ts
  Sound (tree.object ps) = SoundMembers ps

  pub SoundElements : Trees → Type 0
  SoundElements no_more = ⊤
  SoundElements (more t ts) = Sound t × SoundElements ts

  pub SoundMembers : Members → Type 0
  SoundMembers no_member = ⊤
  SoundMembers (member u escape_free t ps) = (all_scalars u ≡ true) × Sound t × SoundMembers ps

-- a decimal has a part behind the point: a schema can't tell 80.0 from 80
abbrev pub IsPlainNumber : Number → Type 0
IsPlainNumber (whole z) = ⊤
IsPlainNumber (decimal d) = is_integral d ≡ false

-- as a schema tells it: no decimal is a whole number, be it spelled with a point or an exponent or too large for 128 bits; and no
-- object has a key twice
abbrev mutual
  pub Plain : Tree → Type 0
  Plain tree.null = ⊤
  Plain (tree.boolean b) = ⊤
  Plain (tree.number n) = IsPlainNumber n
  Plain (tree.text u escape_free) = ⊤
  Plain (tree.array ts) = PlainElements ts
  Plain (tree.object ps) = PlainMembers ps

  pub PlainElements : Trees → Type 0
  PlainElements no_more = ⊤
  PlainElements (more t ts) = Plain t × PlainElements ts

  pub PlainMembers : Members → Type 0
  PlainMembers no_member = ⊤
  PlainMembers (member u escape_free t ps) = (is_named u (fields_of ps) ≡ false) × Plain t × PlainMembers ps

-- ---- what a schema says

-- Of each sound and plain tree the schema says whether it converts, whatever root it stands in: once the rules are unfolded so often.
pub record Says {C : Type 0} (keywords : Fields) (convert : Tree → Option C) : Type 0 where
  pub steps : ℕ
  pub verdict : (n : ℕ) → steps ≤ n → (root : Datum) (v : Answers) (t : Tree) → Sound t → Plain t → unfolded n v root conforming (object keywords) (datum_of t) ≡ is_some (convert t)

-- the value that a field has, if it is there, is as the field's schema says
abbrev pub is_given : (Datum → Datum → Bool) → FieldKind → Option Datum → Bool
is_given test k None = not k.is_required
is_given test k (Some x) = test (object k.keywords) x

abbrev pub are_given : (Datum → Datum → Bool) → List (List ℕ) → List FieldKind → Fields → Bool
are_given test (n ∷ ns) (k ∷ ks) fs = is_given test k (last_named (chars n) fs) && are_given test ns ks fs
are_given test _ _ fs = true

-- The schemas of the fields say which members convert.
pub record SaysFields {D : Type 0} (names : List (List ℕ)) (kinds : List FieldKind) (convert : Members → Option D) : Type 0 where
  pub steps : ℕ
  pub one_each : length kinds ≡ length names
  pub verdict : (n : ℕ) → steps ≤ n → (root : Datum) (v : Answers) (ps : Members) → SoundMembers ps → PlainMembers ps → are_given (unfolded n v root conforming) names kinds (fields_of ps) ≡ is_some (convert ps)

-- names are texts
abbrev pub AreTexts : List (List ℕ) → Type 0
AreTexts [] = ⊤
AreTexts (n ∷ ns) = IsUtf8 n × AreTexts ns

-- the same of a description of fields
pub record Describes {S D : Type 0} (fields : Layout S D) (kinds : List FieldKind) : Type 0 where
  pub one_each : length kinds ≡ length fields.names
  pub says : AreTexts fields.names → SaysFields fields.names kinds fields.convert

-- a whole number of 64 bits that is within these bounds
abbrev pub within_of : (low high : ℤ) → Tree → Option ℤ
within_of low high = refined (signed_below (2 ^ 63)) (if_within low high)

-- the schema of a struct of these fields alone says which objects are read
abbrev pub SaysStruct : {S D : Type 0} → Layout S D → List FieldKind → Type 0
SaysStruct fields kinds = Says (struct_schema fields.names kinds) (object_of (only_these fields))

-- that of one that may have other fields
abbrev pub SaysOpenStruct : {S D : Type 0} → Layout S D → List FieldKind → Type 0
SaysOpenStruct fields kinds = Says (open_struct_schema fields.names kinds) (object_of fields.convert)

-- ---- the whole schema

-- it names its draft
abbrev pub with_draft : Fields → Datum
with_draft keywords = object (keyword (codes "$schema") (named (codes "http://json-schema.org/draft-07/schema#")) keywords)

-- a document that is plain conforms to the whole schema exactly when its tree converts
abbrev pub SaysOfTexts : {C : Type 0} → Fields → (Tree → Option C) → Type 0
SaysOfTexts keywords convert = (text : List ℕ) (limit : ℕ) (t : Tree) → all_scalars text ≡ true → Doc limit text t → Plain t → Conforms (with_draft keywords) (datum_of t) (is_some (convert t))

-- the text is JSON (RFC 8259), and reads as the whole schema
pub record IsSchemaOf (keywords : Fields) (made : List ℕ) : Type 0 where
  pub json : JsonText (chars made)
  pub reads : ReadsAs max_depth (chars made) (with_draft keywords)

-- memory was refused, or the whole schema can't be written as JSON: too many brackets are open at once in it
abbrev pub RefusesSchema : Fields → Error → Type 0
RefusesSchema keywords e = LacksMemory e ⊎ RefusesText (fits (with_draft keywords)) (is_json (with_draft keywords)) e
