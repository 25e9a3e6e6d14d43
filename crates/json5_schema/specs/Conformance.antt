-- When a value conforms to a schema: JSON Schema, draft 2020-12, and what draft 7 says in other words. Of equal keys the last counts.
-- A promise rests on this.
use Rattle.std.specs.Prelude.{◌≡◌, ℕ, zero, suc, ◌-◌, ◌%◌, ℤ, pos, Bool, true, false, ◌&&◌, ◌||◌, not, nat_eq, nat_le, nat_lt, int_le, if◌then◌else◌, List, [], ◌∷◌, ◌++◌, length, Option, Some, None, is_some, option_and_then, unwrap_or}
use Rattle.std.specs.Int.{int_min}
use Rattle.std.specs.Cmp.Lexicographic.{pointwise}
use Rattle.std.specs.Str.{chars, encode_utf8_all}
use lib.Chars.{codes}
use Rattle.std.specs.declared.cmp.Ordering.{Ordering}
use Rattle.std.specs.declared.cmp.Ordering.TheVariants.{Less, Equal}
use Rattle.json5_grammar.specs.Language.Numbers.{whole, decimal, Decimal, infinite, nan, finite}
use Rattle.json5_types.specs.ValueMeanings.{Datum, null, boolean, number, text, array, object, Items, no_item, item, Fields, no_field, field}
use Rattle.json5_types.specs.ValueKinds.{items_len, fields_len}
use Rattle.json5_types.specs.ValueChanges.{put_named}
use Rattle.json5_types.specs.ValueLookups.{boolean_of, items_in, element_of, last_named, named_of, or_else}
use Rattle.json5_types.specs.Pointers.{pointed}
use Rattle.json5_numbers.specs.NumberTexts.{decimal_of}
use Rattle.json5_numbers.specs.Orders.{size_in, decimal_cmp}
use Rattle.json5_numbers.specs.Sameness.{is_named, is_some_and, same_datum}
use Rattle.json5_schema.specs.declared.keyword.Assertion.{Assertion}
use Rattle.json5_schema.specs.declared.keyword.Assertion.TheVariants as assertion
use Rattle.json5_schema.specs.declared.keyword.Applicator.{Applicator}
use Rattle.json5_schema.specs.declared.keyword.Applicator.TheVariants as applicator
use Rattle.json5_schema.specs.declared.keyword.Keyword.{Keyword}
use Rattle.json5_schema.specs.declared.keyword.Keyword.TheVariants as keyword
use Rattle.json5_schema.specs.declared.kind.Kind.{Kind}
use Rattle.json5_schema.specs.declared.kind.Kind.TheVariants as kind
use Rattle.json5_schema.specs.Keywords.{keyword_named, kind_named}
use Rattle.json5_schema.specs.Patterns.{fits}
use Rattle.json5_schema.specs.Formats.{has_format}
use Rattle.json5_schema.specs.Subschemas.{takes_schema, takes_schemas, takes_named}

-- ---- type (validation, section 6.1.1)

-- finite, and without a part behind the point: its digits don't end with a zero
abbrev pub is_integral : Decimal → Bool
is_integral (infinite m) = false
is_integral (nan m) = false
is_integral (finite m ds e) = int_le (pos 0) e

abbrev pub is_of_kind : Kind → Datum → Bool
is_of_kind kind.Null null = true
is_of_kind kind.Boolean (boolean b) = true
is_of_kind kind.Object (object fs) = true
is_of_kind kind.Array (array xs) = true
is_of_kind kind.Number (number n) = true
is_of_kind kind.Integer (number (whole z)) = true
is_of_kind kind.Integer (number (decimal d)) = is_integral d
is_of_kind kind.Text (text u) = true
is_of_kind _ _ = false

-- one name of its kind; private clauses alone cite this
abbrev pub usual_name : Datum → List ℕ
usual_name null = codes "null"
usual_name (boolean b) = codes "boolean"
usual_name (number (whole z)) = codes "integer"
usual_name (number (decimal d)) = codes "number"
usual_name (text u) = codes "string"
usual_name (array xs) = codes "array"
usual_name (object fs) = codes "object"

abbrev pub is_of_named : Datum → Datum → Bool
is_of_named (text name) x = is_of_kind (kind_named (encode_utf8_all name)) x
is_of_named _ x = false

abbrev pub is_of_some : Items → Datum → Bool
is_of_some no_item x = false
is_of_some (item name names) x = is_of_named name x || is_of_some names x

abbrev pub is_of_type : Datum → Datum → Bool
is_of_type (array names) x = is_of_some names x
is_of_type name x = is_of_named name x

-- ---- required (6.5.3)

abbrev pub has_name : Datum → Fields → Bool
has_name (text name) fs = is_named name fs
has_name _ fs = true

abbrev pub has_names : Items → Fields → Bool
has_names no_item fs = true
has_names (item name names) fs = has_name name fs && has_names names fs

abbrev pub has_required : Datum → Datum → Bool
has_required (array names) (object fs) = has_names names fs
has_required _ _ = true

-- ---- enum and const (6.1.2, 6.1.3): equal by the data model of section 4.2.2, as `same_datum` has it

abbrev pub is_among : Datum → Items → Bool
is_among x no_item = false
is_among x (item y ys) = same_datum x y || is_among x ys

abbrev pub is_in_enum : Datum → Datum → Bool
is_in_enum (array ys) x = is_among x ys
is_in_enum _ x = true

-- ---- maximum, minimum and their kin (6.2)

abbrev pub is_not_above : Option Ordering → Bool
is_not_above (Some Less) = true
is_not_above (Some Equal) = true
is_not_above _ = false

-- by each digit; not-a-number is neither above nor below any. Of what is no number nothing is asked
abbrev pub at_most : Datum → Datum → Bool
at_most (number m) (number n) = is_not_above (decimal_cmp (decimal_of m) (decimal_of n))
at_most _ _ = true

abbrev pub is_below : Datum → Datum → Bool
is_below x y = at_most x y && not (same_datum x y)

-- ---- multipleOf (6.2.1)

-- the second number is the first one, which isn't 0, times a whole number
abbrev pub divides : ℕ → ℕ → Bool
divides d n = not (nat_eq d 0) && nat_eq (n % d) 0

-- the two sizes, in units of ten to the smaller exponent
abbrev pub digits_divide : List ℕ → ℤ → List ℕ → ℤ → Bool
digits_divide fs g ds e = divides (size_in (int_min e g) fs g) (size_in (int_min e g) ds e)

abbrev pub is_multiple : Decimal → Decimal → Bool
is_multiple (finite m ds e) (finite n fs g) = digits_divide fs g ds e
is_multiple _ _ = false

abbrev pub is_multiple_of : Datum → Datum → Bool
is_multiple_of (number n) (number m) = is_multiple (decimal_of m) (decimal_of n)
is_multiple_of _ _ = true

-- ---- maxLength, maxItems, maxProperties and their kin (6.3 to 6.5)

-- the number of characters
abbrev pub characters_in : Datum → Option ℕ
characters_in (text u) = Some (length u)
characters_in _ = None

abbrev pub elements_in : Datum → Option ℕ
elements_in (array xs) = Some (items_len xs)
elements_in _ = None

-- without the members whose name a later one has
abbrev pub latest : Fields → Fields
latest no_field = no_field
latest (field u x fs) = if is_named u fs then latest fs else field u x (latest fs)

abbrev pub names_in : Datum → Option ℕ
names_in (object fs) = Some (fields_len (latest fs))
names_in _ = None

abbrev pub count : ℕ → Datum
count n = number (whole (pos n))

-- so many, if anything is counted
abbrev pub count_at_most : Option ℕ → Datum → Bool
count_at_most None limit = true
count_at_most (Some n) limit = at_most (count n) limit

abbrev pub count_at_least : Option ℕ → Datum → Bool
count_at_least None limit = true
count_at_least (Some n) limit = at_most limit (count n)

-- ---- pattern (6.3.3)

abbrev pub is_matching : Datum → Datum → Bool
is_matching (text pattern) (text u) = fits pattern u
is_matching _ _ = true

-- ---- format (7), asserted where the root names the vocabulary of section 7.2.2; what is no known format asserts nothing

abbrev pub format_vocabulary : List ℕ
format_vocabulary = chars (codes "https://json-schema.org/draft/2020-12/vocab/format-assertion")

abbrev pub vocabulary_key : List ℕ
vocabulary_key = chars (codes "$vocabulary")

abbrev pub asserts_formats : Datum → Bool
asserts_formats root = unwrap_or (option_and_then boolean_of (option_and_then (named_of format_vocabulary) (named_of vocabulary_key root))) false

-- the schema with this vocabulary in place of its own
abbrev pub with_formats : Datum → Datum
with_formats (object fs) = object (put_named vocabulary_key (object (field format_vocabulary (boolean true) no_field)) fs)
with_formats s = s

abbrev pub is_in_format : Datum → Datum → Bool
is_in_format (text name) (text u) = has_format name u
is_in_format _ _ = true

abbrev pub format_holds : Datum → Datum → Datum → Bool
format_holds root name x = not (asserts_formats root) || is_in_format name x

-- ---- uniqueItems (6.4.3)

abbrev pub are_distinct : Items → Bool
are_distinct no_item = true
are_distinct (item x xs) = not (is_among x xs) && are_distinct xs

abbrev pub has_distinct : Datum → Datum → Bool
has_distinct (boolean true) (array xs) = are_distinct xs
has_distinct _ _ = true

-- ---- dependentRequired (6.5.4)

-- the names that this one asks for are there, if it is: none where a later one has the name
abbrev pub has_dependent : List ℕ → Datum → Fields → Fields → Bool
has_dependent u names rest fs = is_named u rest || (not (is_named u fs) || has_required names (object fs))

abbrev pub has_dependents : Fields → Fields → Bool
has_dependents no_field fs = true
has_dependents (field u names rest) fs = has_dependent u names rest fs && has_dependents rest fs

abbrev pub has_all_dependents : Datum → Datum → Bool
has_all_dependents (object names) (object fs) = has_dependents names fs
has_all_dependents _ _ = true

-- ---- what a keyword asks: a schema, and the value that it is applied to

-- decided, or how many of these have to conform: at least, and at most
pub data Asked : Type 0 where
  settled : Bool → Asked
  within : ℕ → ℕ → List (Datum × Datum) → Asked
  -- so many have to conform: at least one number, or one, and at most another
  counted : Option Datum → Option Datum → List (Datum × Datum) → Asked
  -- where the value conforms to the first schema it has to conform to the second, if there is one, and elsewhere to the third
  choice : Datum → Option Datum → Option Datum → Datum → Asked
  -- each name has to conform to the schema
  names : Datum → Fields → Asked
  -- each member of the value, or each element, that these keywords leave has to conform to the schema
  left : Datum → Fields → Datum → Asked

abbrev pub all_on : List (Datum × Datum) → Asked
all_on ps = within (length ps) (length ps) ps

abbrev pub some_on : List (Datum × Datum) → Asked
some_on ps = within 1 (length ps) ps

abbrev pub each_schema : Items → Datum → List (Datum × Datum)
each_schema no_item x = []
each_schema (item s ss) x = (s, x) ∷ each_schema ss x

abbrev pub each_item : Datum → Items → List (Datum × Datum)
each_item s no_item = []
each_item s (item x xs) = (s, x) ∷ each_item s xs

abbrev pub with_value : Datum → Option Datum → List (Datum × Datum) → List (Datum × Datum)
with_value s None ps = ps
with_value s (Some x) ps = (s, x) ∷ ps

-- the value that a property's schema is applied to, if there is one: none where a later property has the name
abbrev pub value_for : List ℕ → Fields → Fields → Option Datum
value_for u ss fs = if is_named u ss then None else last_named u fs

abbrev pub by_name : Fields → Fields → List (Datum × Datum)
by_name no_field fs = []
by_name (field u s ss) fs = with_value s (value_for u ss fs) (by_name ss fs)

abbrev pub properties_on : Datum → Datum → Asked
properties_on (object ss) (object fs) = all_on (by_name ss fs)
properties_on _ _ = settled true

-- the argument of another keyword of the same schema
abbrev pub beside : List ℕ → Fields → Option Datum
beside name keywords = last_named (chars name) keywords

-- without so many in front
abbrev pub items_after : ℕ → Items → Items
items_after zero xs = xs
items_after (suc n) no_item = no_item
items_after (suc n) (item x xs) = items_after n xs

abbrev pub by_index : Items → Items → List (Datum × Datum)
by_index (item s ss) (item x xs) = (s, x) ∷ by_index ss xs
by_index _ _ = []

abbrev pub prefix_on : Datum → Datum → Asked
prefix_on (array ss) (array xs) = all_on (by_index ss xs)
prefix_on _ _ = settled true

-- how many schemas another keyword has for the elements in front
abbrev pub schemas_in_front : Option Datum → ℕ
schemas_in_front (Some (array ss)) = items_len ss
schemas_in_front _ = 0

abbrev pub elements_after : Datum → ℕ → Datum → Asked
elements_after s n (array xs) = all_on (each_item s (items_after n xs))
elements_after s n _ = settled true

-- an array of schemas is draft 7's word for `prefixItems`
abbrev pub items_on : Datum → Fields → Datum → Asked
items_on s keywords x = if is_some (items_in s) then prefix_on s x else elements_after s (schemas_in_front (beside (codes "prefixItems") keywords)) x

-- the element with this index is one that `items` applies a schema to
abbrev pub reaches_item : Datum → Option Datum → ℕ → Bool
reaches_item s prefix i = if is_some (items_in s) then nat_lt i (schemas_in_front (Some s)) else nat_le (schemas_in_front prefix) i

-- it is behind those that this array of schemas is for
abbrev pub is_behind : Option Datum → ℕ → Bool
is_behind (Some (array ss)) i = nat_le (items_len ss) i
is_behind _ i = false

-- draft 7's word for `items` after such an array
abbrev pub additional_items_on : Datum → Option Datum → Datum → Asked
additional_items_on s (Some (array ss)) x = elements_after s (items_len ss) x
additional_items_on s _ x = settled true

abbrev pub contains_on : Datum → Fields → Datum → Asked
contains_on s keywords (array xs) = counted (beside (codes "minContains") keywords) (beside (codes "maxContains") keywords) (each_item s xs)
contains_on s keywords _ = settled true

abbrev pub all_of_on : Datum → Datum → Asked
all_of_on (array ss) x = all_on (each_schema ss x)
all_of_on _ x = settled true

abbrev pub any_of_on : Datum → Datum → Asked
any_of_on (array ss) x = some_on (each_schema ss x)
any_of_on _ x = settled true

abbrev pub one_of_on : Datum → Datum → Asked
one_of_on (array ss) x = within 1 1 (each_schema ss x)
one_of_on _ x = settled true

abbrev pub if_on : Datum → Fields → Datum → Asked
if_on s keywords x = choice s (beside (codes "then") keywords) (beside (codes "else") keywords) x

abbrev pub speaks_of : Option Datum → List ℕ → Bool
speaks_of (Some (object ss)) u = is_named u ss
speaks_of _ u = false

-- some pattern of `patternProperties` matches the name
abbrev pub is_matched : Fields → List ℕ → Bool
is_matched no_field u = false
is_matched (field pattern s ss) u = fits pattern u || is_matched ss u

abbrev pub is_patterned : Option Datum → List ℕ → Bool
is_patterned (Some (object ss)) u = is_matched ss u
is_patterned _ u = false

-- neither `properties` nor `patternProperties` speaks of it
abbrev pub is_additional : Fields → List ℕ → Bool
is_additional keywords u = not (speaks_of (beside (codes "properties") keywords) u) && not (is_patterned (beside (codes "patternProperties") keywords) u)

-- the schema of a pattern, on the members with a name that it matches
abbrev pub each_matched : List ℕ → Datum → Fields → List (Datum × Datum)
each_matched pattern s no_field = []
each_matched pattern s (field u x fs) = if fits pattern u then (s, x) ∷ each_matched pattern s fs else each_matched pattern s fs

abbrev pub of_pattern : List ℕ → Datum → Fields → Fields → List (Datum × Datum)
of_pattern pattern s ss fs = if is_named pattern ss then [] else each_matched pattern s fs

-- those of each pattern: none where a later pattern is the same
abbrev pub by_pattern : Fields → Fields → List (Datum × Datum)
by_pattern no_field fs = []
by_pattern (field pattern s ss) fs = of_pattern pattern s ss fs ++ by_pattern ss fs

abbrev pub patterns_on : Datum → Datum → Asked
patterns_on (object ss) (object fs) = all_on (by_pattern ss (latest fs))
patterns_on _ _ = settled true

abbrev pub each_additional : Datum → Fields → Fields → List (Datum × Datum)
each_additional s keywords no_field = []
each_additional s keywords (field u x fs) = if is_additional keywords u then (s, x) ∷ each_additional s keywords fs else each_additional s keywords fs

-- some member is; private clauses alone cite this
abbrev pub has_additional : Fields → Fields → Bool
has_additional keywords no_field = false
has_additional keywords (field u x fs) = is_additional keywords u || has_additional keywords fs

abbrev pub additional_on : Datum → Fields → Datum → Asked
additional_on s keywords (object fs) = all_on (each_additional s keywords (latest fs))
additional_on s keywords _ = settled true

abbrev pub names_on : Datum → Datum → Asked
names_on s (object fs) = names s fs
names_on s _ = settled true

-- the schema of a name is applied to the whole value if the name is there: draft 7's `dependencies` has arrays of names besides
abbrev pub is_dependent : List ℕ → Datum → Fields → Fields → Bool
is_dependent u s ss fs = not (is_named u ss) && (is_named u fs && not (is_some (items_in s)))

abbrev pub dependent_schemas : Fields → Fields → Datum → List (Datum × Datum)
dependent_schemas no_field fs x = []
dependent_schemas (field u s ss) fs x = if is_dependent u s ss fs then (s, x) ∷ dependent_schemas ss fs x else dependent_schemas ss fs x

abbrev pub dependent_on : Datum → Datum → Asked
dependent_on (object ss) (object fs) = all_on (dependent_schemas ss fs (object fs))
dependent_on _ _ = settled true

abbrev pub dependencies_on : Datum → Datum → Asked
dependencies_on ss x = if has_all_dependents ss x then dependent_on ss x else settled false

abbrev pub members_left_on : Datum → Fields → Datum → Asked
members_left_on s keywords (object fs) = left s keywords (object fs)
members_left_on s keywords _ = settled true

abbrev pub elements_left_on : Datum → Fields → Datum → Asked
elements_left_on s keywords (array xs) = left s keywords (array xs)
elements_left_on s keywords _ = settled true

-- ---- names of schemas: `$anchor`, or draft 7's `$id` of `#` and a name; by their bytes

abbrev pub is_anchor : List ℕ → Option Datum → Bool
is_anchor name (Some (text u)) = pointwise nat_eq (encode_utf8_all u) name
is_anchor name _ = false

abbrev pub is_fragment : List ℕ → List ℕ → Bool
is_fragment name [] = false
is_fragment name (c ∷ path) = nat_eq c 0x23 && pointwise nat_eq path name

abbrev pub is_id : List ℕ → Option Datum → Bool
is_id name (Some (text u)) = is_fragment name (encode_utf8_all u)
is_id name _ = false

abbrev pub has_anchor : List ℕ → Fields → Bool
has_anchor name keywords = is_anchor name (beside (codes "$anchor") keywords) || is_id name (beside (codes "$id") keywords)

abbrev mutual
  -- the schema with this name: the first one of those in this schema
  pub anchored : List ℕ → Datum → Option Datum
  anchored name (object fs) = if has_anchor name fs then Some (object fs) else anchored_in name fs
  anchored name _ = None

  -- in the arguments of these keywords: none in one whose name comes again
  pub anchored_in : List ℕ → Fields → Option Datum
  anchored_in name no_field = None
  anchored_in name (field u a rest) = or_else (if is_named u rest then None else anchored_through name (encode_utf8_all u) a) (anchored_in name rest)

  pub anchored_through : List ℕ → List ℕ → Datum → Option Datum
  anchored_through name word (array xs) = if takes_schemas word then anchored_among name xs else None
  anchored_through name word (object fs) =
      if takes_schema word then (if has_anchor name fs then Some (object fs) else anchored_in name fs) else
      if takes_named word then anchored_named name fs else
      None
  anchored_through name word _ = None

  pub anchored_among : List ℕ → Items → Option Datum
  anchored_among name no_item = None
  anchored_among name (item s ss) = or_else (anchored name s) (anchored_among name ss)

  pub anchored_named : List ℕ → Fields → Option Datum
  anchored_named name no_field = None
  anchored_named name (field u s rest) = or_else (if is_named u rest then None else anchored name s) (anchored_named name rest)

-- a JSON pointer is empty or begins with a slash
abbrev pub is_pointer : List ℕ → Bool
is_pointer [] = true
is_pointer (c ∷ path) = nat_eq c 0x2F

-- a pointer, or a name
abbrev pub at_fragment : List ℕ → Datum → Option Datum
at_fragment path root = if is_pointer path then pointed path root else anchored path root

-- a reference within the document: `#`, and a fragment
abbrev pub behind_sign : List ℕ → Datum → Option Datum
behind_sign [] root = None
behind_sign (c ∷ path) root = if nat_eq c 0x23 then at_fragment path root else None

abbrev pub target_of : Datum → Datum → Option Datum
target_of root (text u) = behind_sign (encode_utf8_all u) root
target_of root _ = None

abbrev pub refers_on : Option Datum → Datum → Asked
refers_on None x = settled false
refers_on (Some s) x = all_on ((s, x) ∷ [])

-- what a keyword says by itself: the schema's root, the keyword, its argument, and the value
abbrev pub asserts : Datum → Assertion → Datum → Datum → Bool
asserts root assertion.Type a x = is_of_type a x
asserts root assertion.Enum a x = is_in_enum a x
asserts root assertion.Const a x = same_datum a x
asserts root assertion.MultipleOf a x = is_multiple_of a x
asserts root assertion.Maximum a x = at_most x a
asserts root assertion.ExclusiveMaximum a x = is_below x a
asserts root assertion.Minimum a x = at_most a x
asserts root assertion.ExclusiveMinimum a x = is_below a x
asserts root assertion.MaxLength a x = count_at_most (characters_in x) a
asserts root assertion.MinLength a x = count_at_least (characters_in x) a
asserts root assertion.Pattern a x = is_matching a x
asserts root assertion.Format a x = format_holds root a x
asserts root assertion.MaxItems a x = count_at_most (elements_in x) a
asserts root assertion.MinItems a x = count_at_least (elements_in x) a
asserts root assertion.UniqueItems a x = has_distinct a x
asserts root assertion.MaxProperties a x = count_at_most (names_in x) a
asserts root assertion.MinProperties a x = count_at_least (names_in x) a
asserts root assertion.Required a x = has_required a x
asserts root assertion.DependentRequired a x = has_all_dependents a x

-- which schemas a keyword applies: the schema's root, all keywords beside this one, the keyword, its argument, and the value
abbrev pub applies : Datum → Fields → Applicator → Datum → Datum → Asked
applies root all applicator.AllOf a x = all_of_on a x
applies root all applicator.AnyOf a x = any_of_on a x
applies root all applicator.OneOf a x = one_of_on a x
applies root all applicator.Not a x = within 0 0 ((a, x) ∷ [])
applies root all applicator.If a x = if_on a all x
applies root all applicator.DependentSchemas a x = dependent_on a x
applies root all applicator.Dependencies a x = dependencies_on a x
applies root all applicator.PrefixItems a x = prefix_on a x
applies root all applicator.Items a x = items_on a all x
applies root all applicator.AdditionalItems a x = additional_items_on a (beside (codes "items") all) x
applies root all applicator.Contains a x = contains_on a all x
applies root all applicator.Properties a x = properties_on a x
applies root all applicator.PatternProperties a x = patterns_on a x
applies root all applicator.AdditionalProperties a x = additional_on a all x
applies root all applicator.PropertyNames a x = names_on a x
applies root all applicator.UnevaluatedProperties a x = members_left_on a all x
applies root all applicator.UnevaluatedItems a x = elements_left_on a all x
applies root all applicator.Ref a x = refers_on (target_of root a) x

abbrev pub asks : Datum → Fields → Keyword → Datum → Datum → Asked
asks root all (keyword.Assertion k) a x = settled (asserts root k a x)
asks root all (keyword.Applicator k) a x = applies root all k a x
asks root all keyword.Annotation a x = settled true

-- ---- whether it is so, where `v` answers each question of a schema and a value

-- whether the value conforms to the schema; or whether the schema evaluates the member with this name, or the element with this index
pub data Question : Type 0 where
  conforming : Question
  evaluating_name : List ℕ → Question
  evaluating_index : ℕ → Question

abbrev pub Answers : Type 0
Answers = Question → Datum → Datum → Bool

abbrev pub count_conforming : (Datum → Datum → Bool) → List (Datum × Datum) → ℕ
count_conforming v [] = 0
count_conforming v (p ∷ ps) = if v p.0 p.1 then suc (count_conforming v ps) else count_conforming v ps

abbrev pub is_within : (Datum → Datum → Bool) → ℕ → ℕ → List (Datum × Datum) → Bool
is_within v least most ps = nat_le least (count_conforming v ps) && nat_le (count_conforming v ps) most

abbrev pub is_enough : Option Datum → ℕ → Bool
is_enough None n = nat_le 1 n
is_enough (Some least) n = at_most least (count n)

abbrev pub is_few : Option Datum → ℕ → Bool
is_few None n = true
is_few (Some most) n = at_most (count n) most

-- ---- what a schema evaluates (core, sections 10 and 11): what its keywords apply schemas to, and what schemas evaluate that they apply to
-- the value itself and that it conforms to; `not` has no part in it

-- what a keyword applies a schema to by its name or its index
abbrev pub reaches : Fields → Applicator → Datum → Question → Bool
reaches all applicator.Properties a (evaluating_name u) = speaks_of (Some a) u
reaches all applicator.PatternProperties a (evaluating_name u) = is_patterned (Some a) u
reaches all applicator.AdditionalProperties a (evaluating_name u) = is_additional all u
reaches all applicator.PrefixItems a (evaluating_index i) = nat_lt i (schemas_in_front (Some a))
reaches all applicator.Items a (evaluating_index i) = reaches_item a (beside (codes "prefixItems") all) i
reaches all applicator.AdditionalItems a (evaluating_index i) = is_behind (beside (codes "items") all) i
reaches all _ a q = false

-- the element that is asked for
abbrev pub element_asked : Question → Datum → Option Datum
element_asked (evaluating_index i) x = element_of i x
element_asked _ x = None

-- `contains` finds it
abbrev pub is_contained : Answers → Datum → Datum → Question → Bool
is_contained v a x q = is_some_and (v conforming a) (element_asked q x)

-- the value conforms to one of these schemas that evaluates it
abbrev pub pair_evaluates : Answers → Question → Datum × Datum → Bool
pair_evaluates v q p = v conforming p.0 p.1 && v q p.0 p.1

abbrev pub some_evaluate : Answers → Question → List (Datum × Datum) → Bool
some_evaluate v q [] = false
some_evaluate v q (p ∷ ps) = pair_evaluates v q p || some_evaluate v q ps

abbrev pub part_evaluates : Answers → Question → Option Datum → Datum → Bool
part_evaluates v q None x = false
part_evaluates v q (Some s) x = v q s x

abbrev pub choice_evaluates : Answers → Question → Datum → Option Datum → Option Datum → Datum → Bool
choice_evaluates v q s t e x = if v conforming s x then v q s x || part_evaluates v q t x else part_evaluates v q e x

abbrev pub asked_evaluates : Answers → Question → Asked → Bool
asked_evaluates v q (within least most ps) = some_evaluate v q ps
asked_evaluates v q (choice s t e x) = choice_evaluates v q s t e x
asked_evaluates v q _ = false

-- its schemas are applied to the value itself, and count
abbrev pub is_in_place : Applicator → Bool
is_in_place applicator.AllOf = true
is_in_place applicator.AnyOf = true
is_in_place applicator.OneOf = true
is_in_place applicator.If = true
is_in_place applicator.DependentSchemas = true
is_in_place applicator.Dependencies = true
is_in_place applicator.Ref = true
is_in_place _ = false

abbrev pub is_contains : Applicator → Bool
is_contains applicator.Contains = true
is_contains _ = false

abbrev pub applicator_evaluates : Answers → Datum → Fields → Applicator → Datum → Datum → Question → Bool
applicator_evaluates v root all k a x q =
    if is_in_place k then asked_evaluates v q (applies root all k a x) else
    if is_contains k then is_contained v a x q else
    reaches all k a q

abbrev pub evaluates : Answers → Datum → Fields → Keyword → Datum → Datum → Question → Bool
evaluates v root all (keyword.Applicator k) a x q = applicator_evaluates v root all k a x q
evaluates v root all _ a x q = false

-- none whose name comes again
abbrev pub keyword_evaluates : Answers → Datum → Fields → List ℕ → Datum → Fields → Datum → Question → Bool
keyword_evaluates v root all name a rest x q = not (is_named name rest) && evaluates v root all (keyword_named (encode_utf8_all name)) a x q

-- one of the keywords does, but for those of what is left
abbrev pub keywords_evaluate : Answers → Datum → Fields → Fields → Datum → Question → Bool
keywords_evaluate v root all no_field x q = false
keywords_evaluate v root all (field name a rest) x q = keyword_evaluates v root all name a rest x q || keywords_evaluate v root all rest x q

-- what is left is evaluated, too
abbrev pub takes_rest : Fields → Question → Bool
takes_rest keywords (evaluating_name u) = is_named (chars (codes "unevaluatedProperties")) keywords
takes_rest keywords (evaluating_index i) = is_named (chars (codes "unevaluatedItems")) keywords
takes_rest keywords conforming = false

abbrev pub schema_evaluates : Answers → Datum → Datum → Datum → Question → Bool
schema_evaluates v root (object keywords) x q = takes_rest keywords q || keywords_evaluate v root keywords keywords x q
schema_evaluates v root _ x q = false

-- ---- what is left

-- the keywords evaluate this child of x, or it conforms
abbrev pub child_left_holds : Answers → Datum → Datum → Fields → Datum → Question → Datum → Bool
child_left_holds v root s all x q y = keywords_evaluate v root all all x q || v conforming s y

abbrev pub members_left_hold : Answers → Datum → Datum → Fields → Datum → Fields → Bool
members_left_hold v root s all x no_field = true
members_left_hold v root s all x (field u y fs) = child_left_holds v root s all x (evaluating_name u) y && members_left_hold v root s all x fs

-- from an index on
abbrev pub elements_left_hold : Answers → Datum → Datum → Fields → Datum → ℕ → Items → Bool
elements_left_hold v root s all x i no_item = true
elements_left_hold v root s all x i (item y ys) = child_left_holds v root s all x (evaluating_index i) y && elements_left_hold v root s all x (suc i) ys

abbrev pub left_holds : Answers → Datum → Datum → Fields → Datum → Bool
left_holds v root s all (object fs) = members_left_hold v root s all (object fs) (latest fs)
left_holds v root s all (array xs) = elements_left_hold v root s all (array xs) 0 xs
left_holds v root s all x = true

-- the schema, if there is one
abbrev pub part_holds : (Datum → Datum → Bool) → Option Datum → Datum → Bool
part_holds v None x = true
part_holds v (Some s) x = v s x

abbrev pub names_hold : (Datum → Datum → Bool) → Datum → Fields → Bool
names_hold v s no_field = true
names_hold v s (field u x fs) = v s (text u) && names_hold v s fs

abbrev pub satisfied : Answers → Datum → Asked → Bool
satisfied v root (settled b) = b
satisfied v root (within least most ps) = is_within (v conforming) least most ps
satisfied v root (counted least most ps) = is_enough least (count_conforming (v conforming) ps) && is_few most (count_conforming (v conforming) ps)
satisfied v root (choice s t e x) = if v conforming s x then part_holds (v conforming) t x else part_holds (v conforming) e x
satisfied v root (names s fs) = names_hold (v conforming) s fs
satisfied v root (left s all x) = left_holds v root s all x

-- a keyword whose name comes again is passed over
abbrev pub keyword_holds : Answers → Datum → Fields → List ℕ → Datum → Fields → Datum → Bool
keyword_holds v root all name a rest x = is_named name rest || satisfied v root (asks root all (keyword_named (encode_utf8_all name)) a x)

abbrev pub keywords_hold : Answers → Datum → Fields → Fields → Datum → Bool
keywords_hold v root all no_field x = true
keywords_hold v root all (field name a rest) x = keyword_holds v root all name a rest x && keywords_hold v root all rest x

-- a schema is a boolean or an object of keywords
abbrev pub schema_holds : Answers → Datum → Datum → Datum → Bool
schema_holds v root (boolean b) x = b
schema_holds v root (object keywords) x = keywords_hold v root keywords keywords x
schema_holds v root _ x = true

-- one less, if it holds
abbrev pub less : Bool → ℕ → ℕ
less b n = if b then n - 1 else n

-- ---- conforming

-- what the rules answer, where `v` answers further questions
abbrev pub answers : Answers → Datum → Answers
answers v root conforming s x = schema_holds v root s x
answers v root q s x = schema_evaluates v root s x q

-- the rules, unfolded so many times; beyond that `v` answers
unfoldable pub unfolded : ℕ → Answers → Datum → Answers
unfolded zero v root = v
unfolded (suc n) v root = answers (unfolded n v root) root

-- after some number of unfoldings it is so, whatever is thought of the schemas beyond
abbrev pub Conforms : Datum → Datum → Bool → Type 0
Conforms root x b = (n : ℕ) × ((v : Answers) → unfolded n v root conforming root x ≡ b)

-- answers each question as the rules do
abbrev pub Obeys : Answers → Datum → Type 0
Obeys v root = (q : Question) (s x : Datum) → v q s x ≡ answers v root q s x
