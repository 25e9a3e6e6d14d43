-- The names of keywords, and of the kinds that `type` names.
-- A promise rests on this.
use Rattle.std.specs.Prelude.{ℕ, List, nat_eq, if◌then◌else◌}
use Rattle.std.specs.Cmp.Lexicographic.{pointwise}
use lib.Chars.{codes}
use Rattle.json5_schema.specs.declared.keyword.Assertion.TheVariants as assertion
use Rattle.json5_schema.specs.declared.keyword.Applicator.TheVariants as applicator
use Rattle.json5_schema.specs.declared.keyword.Keyword.{Keyword}
use Rattle.json5_schema.specs.declared.keyword.Keyword.TheVariants as keyword
use Rattle.json5_schema.specs.declared.kind.Kind.{Kind}
use Rattle.json5_schema.specs.declared.kind.Kind.TheVariants as kind

-- by the bytes of the name
abbrev pub keyword_named : List ℕ → Keyword
keyword_named name =
    if pointwise nat_eq name (codes "type") then keyword.Assertion assertion.Type else
    if pointwise nat_eq name (codes "enum") then keyword.Assertion assertion.Enum else
    if pointwise nat_eq name (codes "const") then keyword.Assertion assertion.Const else
    if pointwise nat_eq name (codes "multipleOf") then keyword.Assertion assertion.MultipleOf else
    if pointwise nat_eq name (codes "maximum") then keyword.Assertion assertion.Maximum else
    if pointwise nat_eq name (codes "exclusiveMaximum") then keyword.Assertion assertion.ExclusiveMaximum else
    if pointwise nat_eq name (codes "minimum") then keyword.Assertion assertion.Minimum else
    if pointwise nat_eq name (codes "exclusiveMinimum") then keyword.Assertion assertion.ExclusiveMinimum else
    if pointwise nat_eq name (codes "maxLength") then keyword.Assertion assertion.MaxLength else
    if pointwise nat_eq name (codes "minLength") then keyword.Assertion assertion.MinLength else
    if pointwise nat_eq name (codes "pattern") then keyword.Assertion assertion.Pattern else
    if pointwise nat_eq name (codes "format") then keyword.Assertion assertion.Format else
    if pointwise nat_eq name (codes "maxItems") then keyword.Assertion assertion.MaxItems else
    if pointwise nat_eq name (codes "minItems") then keyword.Assertion assertion.MinItems else
    if pointwise nat_eq name (codes "uniqueItems") then keyword.Assertion assertion.UniqueItems else
    if pointwise nat_eq name (codes "maxProperties") then keyword.Assertion assertion.MaxProperties else
    if pointwise nat_eq name (codes "minProperties") then keyword.Assertion assertion.MinProperties else
    if pointwise nat_eq name (codes "required") then keyword.Assertion assertion.Required else
    if pointwise nat_eq name (codes "dependentRequired") then keyword.Assertion assertion.DependentRequired else
    if pointwise nat_eq name (codes "allOf") then keyword.Applicator applicator.AllOf else
    if pointwise nat_eq name (codes "anyOf") then keyword.Applicator applicator.AnyOf else
    if pointwise nat_eq name (codes "oneOf") then keyword.Applicator applicator.OneOf else
    if pointwise nat_eq name (codes "not") then keyword.Applicator applicator.Not else
    if pointwise nat_eq name (codes "if") then keyword.Applicator applicator.If else
    if pointwise nat_eq name (codes "dependentSchemas") then keyword.Applicator applicator.DependentSchemas else
    if pointwise nat_eq name (codes "dependencies") then keyword.Applicator applicator.Dependencies else
    if pointwise nat_eq name (codes "prefixItems") then keyword.Applicator applicator.PrefixItems else
    if pointwise nat_eq name (codes "items") then keyword.Applicator applicator.Items else
    if pointwise nat_eq name (codes "additionalItems") then keyword.Applicator applicator.AdditionalItems else
    if pointwise nat_eq name (codes "contains") then keyword.Applicator applicator.Contains else
    if pointwise nat_eq name (codes "properties") then keyword.Applicator applicator.Properties else
    if pointwise nat_eq name (codes "patternProperties") then keyword.Applicator applicator.PatternProperties else
    if pointwise nat_eq name (codes "additionalProperties") then keyword.Applicator applicator.AdditionalProperties else
    if pointwise nat_eq name (codes "propertyNames") then keyword.Applicator applicator.PropertyNames else
    if pointwise nat_eq name (codes "unevaluatedProperties") then keyword.Applicator applicator.UnevaluatedProperties else
    if pointwise nat_eq name (codes "unevaluatedItems") then keyword.Applicator applicator.UnevaluatedItems else
    if pointwise nat_eq name (codes "$ref") then keyword.Applicator applicator.Ref else
    keyword.Annotation

abbrev pub kind_named : List ℕ → Kind
kind_named name =
    if pointwise nat_eq name (codes "null") then kind.Null else
    if pointwise nat_eq name (codes "boolean") then kind.Boolean else
    if pointwise nat_eq name (codes "object") then kind.Object else
    if pointwise nat_eq name (codes "array") then kind.Array else
    if pointwise nat_eq name (codes "number") then kind.Number else
    if pointwise nat_eq name (codes "integer") then kind.Integer else
    if pointwise nat_eq name (codes "string") then kind.Text else
    kind.Unknown

-- ---- private clauses alone cite these: the keywords whose names have so many letters

abbrev pub keyword_to_four : List ℕ → Keyword
keyword_to_four name =
    if pointwise nat_eq name (codes "type") then keyword.Assertion assertion.Type else
    if pointwise nat_eq name (codes "enum") then keyword.Assertion assertion.Enum else
    if pointwise nat_eq name (codes "not") then keyword.Applicator applicator.Not else
    if pointwise nat_eq name (codes "if") then keyword.Applicator applicator.If else
    if pointwise nat_eq name (codes "$ref") then keyword.Applicator applicator.Ref else
    keyword.Annotation

abbrev pub keyword_of_five : List ℕ → Keyword
keyword_of_five name =
    if pointwise nat_eq name (codes "const") then keyword.Assertion assertion.Const else
    if pointwise nat_eq name (codes "allOf") then keyword.Applicator applicator.AllOf else
    if pointwise nat_eq name (codes "anyOf") then keyword.Applicator applicator.AnyOf else
    if pointwise nat_eq name (codes "oneOf") then keyword.Applicator applicator.OneOf else
    if pointwise nat_eq name (codes "items") then keyword.Applicator applicator.Items else
    keyword.Annotation

abbrev pub keyword_to_seven : List ℕ → Keyword
keyword_to_seven name =
    if pointwise nat_eq name (codes "maximum") then keyword.Assertion assertion.Maximum else
    if pointwise nat_eq name (codes "minimum") then keyword.Assertion assertion.Minimum else
    if pointwise nat_eq name (codes "pattern") then keyword.Assertion assertion.Pattern else
    if pointwise nat_eq name (codes "format") then keyword.Assertion assertion.Format else
    keyword.Annotation

abbrev pub keyword_of_eight : List ℕ → Keyword
keyword_of_eight name =
    if pointwise nat_eq name (codes "maxItems") then keyword.Assertion assertion.MaxItems else
    if pointwise nat_eq name (codes "minItems") then keyword.Assertion assertion.MinItems else
    if pointwise nat_eq name (codes "required") then keyword.Assertion assertion.Required else
    if pointwise nat_eq name (codes "contains") then keyword.Applicator applicator.Contains else
    keyword.Annotation

abbrev pub keyword_to_ten : List ℕ → Keyword
keyword_to_ten name =
    if pointwise nat_eq name (codes "multipleOf") then keyword.Assertion assertion.MultipleOf else
    if pointwise nat_eq name (codes "maxLength") then keyword.Assertion assertion.MaxLength else
    if pointwise nat_eq name (codes "minLength") then keyword.Assertion assertion.MinLength else
    if pointwise nat_eq name (codes "properties") then keyword.Applicator applicator.Properties else
    keyword.Annotation

abbrev pub keyword_to_sixteen : List ℕ → Keyword
keyword_to_sixteen name =
    if pointwise nat_eq name (codes "exclusiveMaximum") then keyword.Assertion assertion.ExclusiveMaximum else
    if pointwise nat_eq name (codes "exclusiveMinimum") then keyword.Assertion assertion.ExclusiveMinimum else
    if pointwise nat_eq name (codes "uniqueItems") then keyword.Assertion assertion.UniqueItems else
    if pointwise nat_eq name (codes "maxProperties") then keyword.Assertion assertion.MaxProperties else
    if pointwise nat_eq name (codes "minProperties") then keyword.Assertion assertion.MinProperties else
    if pointwise nat_eq name (codes "dependentSchemas") then keyword.Applicator applicator.DependentSchemas else
    if pointwise nat_eq name (codes "dependencies") then keyword.Applicator applicator.Dependencies else
    if pointwise nat_eq name (codes "prefixItems") then keyword.Applicator applicator.PrefixItems else
    if pointwise nat_eq name (codes "additionalItems") then keyword.Applicator applicator.AdditionalItems else
    if pointwise nat_eq name (codes "propertyNames") then keyword.Applicator applicator.PropertyNames else
    if pointwise nat_eq name (codes "unevaluatedItems") then keyword.Applicator applicator.UnevaluatedItems else
    keyword.Annotation

abbrev pub long_keyword : List ℕ → Keyword
long_keyword name =
    if pointwise nat_eq name (codes "dependentRequired") then keyword.Assertion assertion.DependentRequired else
    if pointwise nat_eq name (codes "patternProperties") then keyword.Applicator applicator.PatternProperties else
    if pointwise nat_eq name (codes "additionalProperties") then keyword.Applicator applicator.AdditionalProperties else
    if pointwise nat_eq name (codes "unevaluatedProperties") then keyword.Applicator applicator.UnevaluatedProperties else
    keyword.Annotation
