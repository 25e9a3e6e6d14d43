-- What the code's pairs and questions mean, and why there is no answer.
-- A promise rests on this.
use Rattle.std.specs.Prelude.{◌≡◌, ◌⊎◌, ℕ, Bool, true, if◌then◌else◌, String, string_bytes, List, [], ◌∷◌, map, Option, None, option_map, Result, MatchResult, Vec}
use Rattle.std.specs.declared.alloc.Global.{Global}
use Rattle.std.specs.Str.{chars}
use Rattle.std.specs.Borrow.{Bor}
use Rattle.json5_grammar.specs.declared.error_code.ErrorCode.TheVariants.{OverflowParsingNumber, TooDeep}
use Rattle.json5_types.specs.declared.error.Error.{Error}
use Rattle.json5_types.specs.declared.value.Value.{Value}
use Rattle.json5_types.specs.Errors.{code, LacksMemory, SaysAt}
use Rattle.json5_types.specs.ValueMeanings.{Datum, array, object, Fields, no_field, field, value_of, items_view, fields_view}
use Rattle.json5_schema.specs.Conformance.{Asked, settled, within, applies, satisfied, contains_on, if_on, is_in_place, asked_evaluates, Question, evaluating_name, evaluating_index, Answers, keyword_holds, left_holds, members_left_hold, elements_left_hold, child_left_holds, reaches, keyword_evaluates, keywords_evaluate, applicator_evaluates, schema_evaluates, unfolded}
use Rattle.json5_schema.specs.Shapes.{IsShaped}
use Rattle.json5_schema.specs.Subschemas.{HasOnlyKeywords}
use Rattle.json5_schema.specs.declared.keyword.Applicator.{Applicator}
use Rattle.json5_schema.specs.declared.keyword.Applicator.TheVariants as applicator
use Rattle.json5_schema.specs.declared.schemas.Schema.{Schema}
use Rattle.json5_schema.specs.declared.asked.Pair.{Pair}
use Rattle.json5_schema.specs.declared.members.Member.{Member}
use Rattle.json5_schema.specs.declared.asked.Asked as declared
use Rattle.json5_schema.specs.declared.asked.Child.{Child}
use Rattle.json5_schema.specs.declared.asked.Child.TheVariants as child
use Rattle.json5_schema.specs.declared.asked.Asked.TheVariants as asked

abbrev pub pair_view : Pair → Datum × Datum
pair_view p = (value_of p.schema.now, value_of p.value.now)

abbrev pub pairs_view : List Pair → List (Datum × Datum)
pairs_view ps = map pair_view ps

abbrev pub members_view : List Member → Fields
members_view [] = no_field
members_view (m ∷ ms) = field (chars m.name.now) (value_of m.value.now) (members_view ms)

abbrev pub part_view : Option (Bor Value) → Option Datum
part_view t = option_map (λ p. value_of p.now) t

abbrev pub asked_view : declared.Asked → Asked
asked_view (asked.Settled b) = settled b
asked_view (asked.Within least most ps) = within least most (pairs_view ps.items)

-- what a keyword asks of pairs, of those that ask for nothing else
abbrev pub pairs_asked : Datum → Fields → Applicator → Datum → Datum → Asked
pairs_asked root all applicator.If a x = settled true
pairs_asked root all applicator.Contains a x = settled true
pairs_asked root all applicator.PropertyNames a x = settled true
pairs_asked root all applicator.UnevaluatedProperties a x = settled true
pairs_asked root all applicator.UnevaluatedItems a x = settled true
pairs_asked root all k a x = applies root all k a x

-- whether the schema evaluates the child
abbrev pub question_of : Child → Question
question_of (child.Name u) = evaluating_name (chars u.now)
question_of (child.Index i) = evaluating_index i

-- memory was refused, more schemas were applied within one another than can be, or a divisor has too many digits
abbrev pub IsRefusal : Error → Type 0
IsRefusal e = LacksMemory e ⊎ (SaysAt (code TooDeep) None e ⊎ SaysAt (code OverflowParsingNumber) None e)

-- it is asked for this, or the call was refused
abbrev pub AsksFor : Asked → Result declared.Asked Error → Type 0
AsksFor a result = MatchResult result (λ found. asked_view found ≡ a) IsRefusal

-- these are the pairs, or memory ran out
abbrev pub PairsFor : List (Datum × Datum) → Result (Vec Pair Global) Error → Type 0
PairsFor pairs result = MatchResult result (λ found. pairs_view found.items ≡ pairs) LacksMemory

-- this is the result, whatever is thought of the schemas beyond so many unfoldings
abbrev pub Settles : {A : Type 0} → ℕ → Datum → (Answers → A) → Result A Error → Type 0
Settles n root asked result = MatchResult result (λ found. (v : Answers) → asked (unfolded n v root) ≡ found) IsRefusal

-- ---- the words of conforming, of the code's values

abbrev pub Members : Type 0
Members = List (String Global × Value)

-- a keyword as a member has it, with all members beside it and those behind it
abbrev pub member_holds : Answers → Value → Members → String Global × Value → Members → Value → Bool
member_holds v root keywords member after x =
    keyword_holds v (value_of root) (fields_view keywords) (chars (string_bytes member.0)) (value_of member.1) (fields_view after) (value_of x)

-- one with this argument that applies schemas
abbrev pub argument_holds : Answers → Value → Members → Applicator → Value → Value → Bool
argument_holds v root keywords k argument x = satisfied v (value_of root) (applies (value_of root) (fields_view keywords) k (value_of argument) (value_of x))

-- that asks for pairs
abbrev pub pairs_hold : Answers → Value → Members → Applicator → Value → Value → Bool
pairs_hold v root keywords k argument x = satisfied v (value_of root) (pairs_asked (value_of root) (fields_view keywords) k (value_of argument) (value_of x))

-- as many of the elements conform as `contains` asks for
abbrev pub items_counted : Answers → Value → Value → Members → List Value → Bool
items_counted v root schema keywords items = satisfied v (value_of root) (contains_on (value_of schema) (fields_view keywords) (array (items_view items)))

-- the same of whether it evaluates a child
abbrev pub member_evaluates : Answers → Value → Members → String Global × Value → Members → Value → Child → Bool
member_evaluates v root keywords member after x child =
    keyword_evaluates v (value_of root) (fields_view keywords) (chars (string_bytes member.0)) (value_of member.1) (fields_view after) (value_of x) (question_of child)

-- by its argument
abbrev pub argument_evaluates : Answers → Value → Members → Applicator → Value → Value → Child → Bool
argument_evaluates v root keywords k argument x child = applicator_evaluates v (value_of root) (fields_view keywords) k (value_of argument) (value_of x) (question_of child)

abbrev pub pairs_evaluate : Answers → Value → Members → Applicator → Value → Value → Child → Bool
pairs_evaluate v root keywords k argument x child =
    if is_in_place k then asked_evaluates v (question_of child) (pairs_asked (value_of root) (fields_view keywords) k (value_of argument) (value_of x)) else
    reaches (fields_view keywords) k (value_of argument) (question_of child)

-- one of all keywords, and of what is left too
abbrev pub one_evaluates : Answers → Value → Members → Value → Child → Bool
one_evaluates v root keywords x child = keywords_evaluate v (value_of root) (fields_view keywords) (fields_view keywords) (value_of x) (question_of child)

abbrev pub fields_evaluate : Answers → Value → Members → Value → Child → Bool
fields_evaluate v root keywords x child = schema_evaluates v (value_of root) (object (fields_view keywords)) (value_of x) (question_of child)

abbrev pub either_evaluates : Answers → Child → Value → Members → Value → Bool
either_evaluates v child condition keywords x = asked_evaluates v (question_of child) (if_on (value_of condition) (fields_view keywords) (value_of x))

-- by a member's name
abbrev pub reaches_named : Members → Applicator → Value → List ℕ → Bool
reaches_named keywords k argument name = reaches (fields_view keywords) k (value_of argument) (evaluating_name (chars name))

-- what is left
abbrev pub value_left : Answers → Value → Value → Members → Value → Bool
value_left v root schema keywords x = left_holds v (value_of root) (value_of schema) (fields_view keywords) (value_of x)

abbrev pub members_left : Answers → Value → Value → Members → Value → List Member → Bool
members_left v root schema keywords x members = members_left_hold v (value_of root) (value_of schema) (fields_view keywords) (value_of x) (members_view members)

abbrev pub elements_left : Answers → Value → Value → Members → Value → List Value → Bool
elements_left v root schema keywords x items = elements_left_hold v (value_of root) (value_of schema) (fields_view keywords) (value_of x) 0 (items_view items)

abbrev pub child_left : Answers → Value → Value → Members → Value → Child → Value → Bool
child_left v root schema keywords x child inner = child_left_holds v (value_of root) (value_of schema) (fields_view keywords) (value_of x) (question_of child) (value_of inner)

abbrev pub schema_of : Schema → Datum
schema_of s = value_of s.root

-- a schema that was taken: it is this value, and each argument in it has the shape of its keyword
abbrev pub IsSchemaOf : Datum → Schema → Type 0
IsSchemaOf x s = (schema_of s ≡ x) × IsShaped (schema_of s)

-- and each keyword is known
abbrev pub IsStrictOf : Datum → Schema → Type 0
IsStrictOf x s = IsSchemaOf x s × HasOnlyKeywords (schema_of s)
