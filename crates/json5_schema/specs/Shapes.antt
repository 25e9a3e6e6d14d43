-- What the argument of each keyword has to be: by drafts 6 to 2020-12, and by what this version decides.
-- A promise rests on this.
use Rattle.std.specs.Prelude.{◌≡◌, ◌⊎◌, ℕ, pos, Bool, true, false, ◌&&◌, ◌||◌, not, nat_eq, int_le, int_lt, if◌then◌else◌, List, is_some}
use Rattle.std.specs.Cmp.Lexicographic.{pointwise}
use Rattle.std.specs.Str.{encode_utf8_all}
use lib.Chars.{codes}
use Rattle.json5_grammar.specs.Language.Numbers.{is_empty, whole, decimal}
use Rattle.json5_types.specs.NumberDecimals.{has_minus, digits_in}
use Rattle.json5_types.specs.ValueLookups.{boolean_of, items_in, fields_in, text_in}
use Rattle.json5_types.specs.ValueKinds.{number_in}
use Rattle.json5_types.specs.ValueMeanings.{Datum, number, text, array, object, Items, no_item, item, Fields, no_field, field}
use Rattle.json5_schema.specs.declared.keyword.Applicator.{Applicator}
use Rattle.json5_schema.specs.declared.keyword.Applicator.TheVariants as applicator
use Rattle.json5_schema.specs.declared.keyword.Assertion.{Assertion}
use Rattle.json5_schema.specs.declared.keyword.Assertion.TheVariants as assertion
use Rattle.json5_schema.specs.declared.keyword.Keyword.{Keyword}
use Rattle.json5_schema.specs.declared.keyword.Keyword.TheVariants as keyword
use Rattle.json5_schema.specs.declared.shape.Holding.{Holding}
use Rattle.json5_schema.specs.declared.shape.Holding.TheVariants as holding
use Rattle.json5_schema.specs.declared.kind.Kind.{Kind}
use Rattle.json5_schema.specs.declared.kind.Kind.TheVariants as kind
use Rattle.json5_schema.specs.declared.shape.Shape.{Shape}
use Rattle.json5_schema.specs.declared.shape.Shape.TheVariants as shape
use Rattle.json5_schema.specs.Conformance.{is_integral}
use Rattle.json5_schema.specs.Keywords.{keyword_named, kind_named}
use Rattle.json5_schema.specs.Subschemas.{HasKeyword, IsElement, IsMember, StandsIn, Subschema}

-- of what says by itself whether a value is as it is wanted; `format` asks nothing by its name alone
abbrev pub assertion_shape : Assertion → Shape
assertion_shape assertion.Type = shape.Kinds
assertion_shape assertion.Enum = shape.Array
assertion_shape assertion.Const = shape.Any
assertion_shape assertion.MultipleOf = shape.Divisor
assertion_shape assertion.Maximum = shape.Number
assertion_shape assertion.ExclusiveMaximum = shape.Number
assertion_shape assertion.Minimum = shape.Number
assertion_shape assertion.ExclusiveMinimum = shape.Number
assertion_shape assertion.MaxLength = shape.Count
assertion_shape assertion.MinLength = shape.Count
assertion_shape assertion.Pattern = shape.Pattern
assertion_shape assertion.Format = shape.Any
assertion_shape assertion.MaxItems = shape.Count
assertion_shape assertion.MinItems = shape.Count
assertion_shape assertion.UniqueItems = shape.Boolean
assertion_shape assertion.MaxProperties = shape.Count
assertion_shape assertion.MinProperties = shape.Count
assertion_shape assertion.Required = shape.Names
assertion_shape assertion.DependentRequired = shape.NamedNames

-- of what applies schemas
abbrev pub applicator_shape : Applicator → Shape
applicator_shape applicator.AllOf = shape.Schemas
applicator_shape applicator.AnyOf = shape.Schemas
applicator_shape applicator.OneOf = shape.Schemas
applicator_shape applicator.Not = shape.Schema
applicator_shape applicator.If = shape.Schema
applicator_shape applicator.DependentSchemas = shape.NamedSchemas
applicator_shape applicator.Dependencies = shape.NamedSchemasOrNames
applicator_shape applicator.PrefixItems = shape.Schemas
applicator_shape applicator.Items = shape.SchemaOrSchemas
applicator_shape applicator.AdditionalItems = shape.Schema
applicator_shape applicator.Contains = shape.Schema
applicator_shape applicator.Properties = shape.NamedSchemas
applicator_shape applicator.PatternProperties = shape.PatternSchemas
applicator_shape applicator.AdditionalProperties = shape.Schema
applicator_shape applicator.PropertyNames = shape.Schema
applicator_shape applicator.UnevaluatedProperties = shape.Schema
applicator_shape applicator.UnevaluatedItems = shape.Schema
applicator_shape applicator.Ref = shape.Reference

-- of another word, by its bytes
abbrev pub other_shape : List ℕ → Shape
other_shape name =
    if pointwise nat_eq name (codes "then") then shape.Schema else
    if pointwise nat_eq name (codes "else") then shape.Schema else
    if pointwise nat_eq name (codes "contentSchema") then shape.Schema else
    if pointwise nat_eq name (codes "$defs") then shape.NamedSchemas else
    if pointwise nat_eq name (codes "definitions") then shape.NamedSchemas else
    if pointwise nat_eq name (codes "maxContains") then shape.Count else
    if pointwise nat_eq name (codes "minContains") then shape.Count else
    if pointwise nat_eq name (codes "$anchor") then shape.Anchor else
    if pointwise nat_eq name (codes "$dynamicRef") then shape.Undecided else
    if pointwise nat_eq name (codes "$dynamicAnchor") then shape.Undecided else
    if pointwise nat_eq name (codes "$recursiveRef") then shape.Undecided else
    if pointwise nat_eq name (codes "$recursiveAnchor") then shape.Undecided else
    shape.Any

abbrev pub keyword_shape : Keyword → List ℕ → Shape
keyword_shape (keyword.Assertion a) name = assertion_shape a
keyword_shape (keyword.Applicator k) name = applicator_shape k
keyword_shape keyword.Annotation name = other_shape name

-- by the bytes of the keyword's name
abbrev pub shape_named : List ℕ → Shape
shape_named name = keyword_shape (keyword_named name) name

-- ---- arrays of names, and objects of them

abbrev pub are_texts : Items → Bool
are_texts no_item = true
are_texts (item x xs) = is_some (text_in x) && are_texts xs

abbrev pub is_names : Datum → Bool
is_names (array xs) = are_texts xs
is_names _ = false

abbrev pub are_named_names : Fields → Bool
are_named_names no_field = true
are_named_names (field u x fs) = is_names x && are_named_names fs

abbrev pub is_named_names : Datum → Bool
is_named_names (object fs) = are_named_names fs
is_named_names _ = false

-- ---- the names of kinds

abbrev pub is_known_kind : Kind → Bool
is_known_kind kind.Unknown = false
is_known_kind _ = true

abbrev pub is_kind : Datum → Bool
is_kind (text name) = is_known_kind (kind_named (encode_utf8_all name))
is_kind _ = false

abbrev pub are_kinds : Items → Bool
are_kinds no_item = true
are_kinds (item x xs) = is_kind x && are_kinds xs

abbrev pub is_kinds : Datum → Bool
is_kinds (array xs) = are_kinds xs
is_kinds x = is_kind x

-- ---- numbers

-- without a fraction, and not below zero: -0 is 0
abbrev pub is_count : Datum → Bool
is_count (number (whole z)) = int_le (pos 0) z
is_count (number (decimal d)) = is_integral d && (not (has_minus d) || is_empty (digits_in d))
is_count _ = false

-- above zero
abbrev pub is_divisor : Datum → Bool
is_divisor (number (whole z)) = int_lt (pos 0) z
is_divisor (number (decimal d)) = not (has_minus d) && not (is_empty (digits_in d))
is_divisor _ = false

-- ---- schemas

abbrev pub is_schema : Datum → Bool
is_schema x = is_some (boolean_of x) || is_some (fields_in x)

abbrev pub has_item : Datum → Bool
has_item (array (item x xs)) = true
has_item _ = false

-- where the schemas of an argument stand
abbrev pub holding_of : Shape → Holding
holding_of shape.Schema = holding.Alone
holding_of shape.Schemas = holding.Elements
holding_of shape.SchemaOrSchemas = holding.AloneOrElements
holding_of shape.NamedSchemas = holding.Members
holding_of shape.PatternSchemas = holding.Members
holding_of shape.NamedSchemasOrNames = holding.MembersOrNames
holding_of _ = holding.Nothing

abbrev pub are_schemas : Items → Bool
are_schemas no_item = true
are_schemas (item x xs) = is_schema x && are_schemas xs

abbrev pub are_named_schemas : Fields → Bool
are_named_schemas no_field = true
are_named_schemas (field u x fs) = is_schema x && are_named_schemas fs

abbrev pub are_schemas_or_names : Fields → Bool
are_schemas_or_names no_field = true
are_schemas_or_names (field u x fs) = (is_schema x || is_names x) && are_schemas_or_names fs

-- what stands there is schemas
abbrev pub holds_schemas : Holding → Datum → Bool
holds_schemas holding.Elements (array xs) = are_schemas xs
holds_schemas holding.AloneOrElements (array xs) = are_schemas xs
holds_schemas holding.Members (object fs) = are_named_schemas fs
holds_schemas holding.MembersOrNames (object fs) = are_schemas_or_names fs
holds_schemas holding.Alone x = is_schema x
holds_schemas holding.AloneOrElements x = is_schema x
holds_schemas _ x = true

-- ---- the shapes, whatever stands in an array or an object of schemas

abbrev pub has_outline : Shape → Datum → Bool
has_outline shape.Schema x = true
has_outline shape.Schemas x = has_item x
has_outline shape.SchemaOrSchemas x = true
has_outline shape.NamedSchemas x = is_some (fields_in x)
has_outline shape.NamedSchemasOrNames x = is_some (fields_in x)
has_outline shape.PatternSchemas x = is_some (fields_in x)
has_outline shape.NamedNames x = is_named_names x
has_outline shape.Names x = is_names x
has_outline shape.Kinds x = is_kinds x
has_outline shape.Array x = is_some (items_in x)
has_outline shape.Boolean x = is_some (boolean_of x)
has_outline shape.Number x = is_some (number_in x)
has_outline shape.Count x = is_count x
has_outline shape.Divisor x = is_divisor x
has_outline shape.Reference x = is_some (text_in x)
has_outline shape.Anchor x = is_some (text_in x)
has_outline shape.Pattern x = is_some (text_in x)
has_outline shape.Format x = is_some (text_in x)
has_outline shape.Undecided x = false
has_outline shape.Any x = true

abbrev pub IsOfShape : Shape → Datum → Type 0
IsOfShape k a = (has_outline k a ≡ true) × (holds_schemas (holding_of k) a ≡ true)

-- ---- a schema

-- each argument has the shape of its keyword, in the schema and in those in it; no keyword is undecided
abbrev pub IsShaped : Datum → Type 0
IsShaped root = (s a : Datum) (name : List ℕ) → Subschema root s → HasKeyword s name a → IsOfShape (shape_named (encode_utf8_all name)) a

-- the same, of what is a schema
abbrev pub IsTaken : Datum → Type 0
IsTaken s = (is_schema s ≡ true) × IsShaped s

-- ---- private clauses alone cite these

-- the same of a keyword, and of the schemas in its argument
abbrev pub IsShapedThrough : List ℕ → Datum → Type 0
IsShapedThrough name a = IsOfShape (shape_named name) a × ((s : Datum) → StandsIn name a s → IsShaped s)

abbrev pub IsElementOf : Datum → Datum → Type 0
IsElementOf s (array xs) = IsElement s xs
IsElementOf s _ = ⊥

abbrev pub IsMemberOf : Datum → Datum → Type 0
IsMemberOf s (object fs) = (u : List ℕ) × IsMember u s fs
IsMemberOf s _ = ⊥

abbrev pub StandsBy : Holding → Datum → Datum → Type 0
StandsBy holding.Alone a s = s ≡ a
StandsBy holding.Elements a s = IsElementOf s a
StandsBy holding.AloneOrElements a s = (s ≡ a) ⊎ IsElementOf s a
StandsBy holding.Members a s = IsMemberOf s a
StandsBy holding.MembersOrNames a s = IsMemberOf s a
StandsBy holding.Nothing a s = ⊥

-- the schemas that stand there are so
abbrev pub HoldsTaken : Holding → Datum → Type 0
HoldsTaken h a = (holds_schemas h a ≡ true) × ((s : Datum) → StandsBy h a s → IsShaped s)

abbrev pub IsTakenAs : Shape → Datum → Type 0
IsTakenAs k a = (has_outline k a ≡ true) × HoldsTaken (holding_of k) a

-- of a format and of an `$id` by what stands in them and by where they stand
abbrev pub shape_at : List ℕ → Shape → Shape → Shape
shape_at name format id = if pointwise nat_eq name (codes "format") then format else if pointwise nat_eq name (codes "$id") then id else shape_named name

abbrev pub AllTaken : Items → Type 0
AllTaken xs = (s : Datum) → IsElement s xs → IsTaken s

-- names where they may stand, or a schema
abbrev pub IsMemberTaken : Bool → Datum → Type 0
IsMemberTaken or_names s = ((or_names ≡ true) × (is_names s ≡ true)) ⊎ IsTaken s

abbrev pub AllNamedTaken : Bool → Fields → Type 0
AllNamedTaken or_names fs = (u : List ℕ) (s : Datum) → IsMember u s fs → IsMemberTaken or_names s

abbrev pub HoldsNamed : Bool → Datum → Type 0
HoldsNamed false a = HoldsTaken holding.Members a
HoldsNamed true a = HoldsTaken holding.MembersOrNames a
