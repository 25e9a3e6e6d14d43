-- Why a value isn't taken as a schema.
-- A promise rests on this.
use Rattle.std.specs.Prelude.{◌≡◌, ◌⊎◌, ◌≤◌, ◌+◌, ℕ, Bool, true, false, ◌&&◌, ◌||◌, not, nat_eq, nat_lt, int_le, int_lt, pos, ◌^◌, if◌then◌else◌, List, [], ◌∷◌, Some, None, is_some, Result, IfErr}
use Rattle.std.specs.Cmp.Lexicographic.{pointwise}
use Rattle.std.specs.Char.{is_ascii_alphabetic, is_ascii_digit}
use Rattle.std.specs.Str.{chars, encode_utf8_all}
use Rattle.std.specs.Str.Iter.{HasSubslice}
use Rattle.std.specs.Str.Parse.{digits_value}
use lib.Chars.{codes}
use Rattle.regex.specs.Failures.{IsPattern}
use Rattle.regex.specs.Patterns.{default_config}
use Rattle.regex_syntax.specs.Verdict.{Refuses}
use Rattle.regex_syntax.specs.declared.error.ErrorKind.{ErrorKind}
use Rattle.json5_grammar.specs.declared.error_code.ErrorCode.TheVariants.{TooDeep}
use Rattle.json5_types.specs.declared.error.Error.{Error}
use Rattle.json5_types.specs.Errors.{code, LacksMemory, SaysAt}
use Rattle.json5_types.specs.ValueLookups.{fits, named_of}
use Rattle.json5_grammar.specs.Language.Numbers.{is_empty, whole, decimal}
use Rattle.json5_types.specs.NumberDecimals.{digits_in}
use Rattle.json5_types.specs.ValueMeanings.{Datum, number, text, array, object, Items, no_item, item, Fields, no_field, field}
use Rattle.json5_numbers.specs.Sameness.{is_named}
use Rattle.json5_schema.specs.declared.faults.Problem.{Problem}
use Rattle.json5_schema.specs.declared.faults.Problem.TheVariants as problem
use Rattle.json5_schema.specs.declared.faults.SchemaFault.{SchemaFault}
use Rattle.json5_schema.specs.declared.faults.SchemaFault.TheVariants as faults
use Rattle.json5_schema.specs.declared.looking.Rules.{Rules}
use Rattle.json5_schema.specs.declared.shape.Shape.{Shape}
use Rattle.json5_schema.specs.declared.shape.Shape.TheVariants as shape
use Rattle.json5_schema.specs.Conformance.{asserts_formats, behind_sign}
use Rattle.json5_schema.specs.Formats.{expression_named}
use Rattle.json5_schema.specs.Patterns.{in_rust}
use Rattle.json5_schema.specs.Shapes.{has_outline, holding_of, holds_schemas, is_schema, shape_at, IsElementOf, IsMemberOf, StandsBy}
use Rattle.json5_schema.specs.Subschemas.{is_any, is_known, HasKeyword, IsMember, Subschema}

-- ---- the draft that a schema names

-- the name of a draft before 6
abbrev pub IsOldName : List ℕ → Type 0
IsOldName bytes = HasSubslice bytes (codes "draft-03") ⊎ (HasSubslice bytes (codes "draft-04") ⊎ HasSubslice bytes (codes "draft-05"))

-- of one in which keywords beside `$ref` count
abbrev pub IsLaterName : List ℕ → Type 0
IsLaterName bytes = HasSubslice bytes (codes "2019-09") ⊎ HasSubslice bytes (codes "2020-12")

-- the whole names such a draft, which is a text
abbrev pub NamesDraft : (List ℕ → Type 0) → Datum → Type 0
NamesDraft P root = (u : List ℕ) × (named_of (chars (codes "$schema")) root ≡ Some (text u)) × P (encode_utf8_all u)

-- so the whole says how it is looked at
pub record IsRuled (is_strict : Bool) (root : Datum) (rules : Rules) : Type 0 where
  pub strict : rules.is_strict ≡ is_strict
  pub formats : rules.asserts_formats ≡ asserts_formats root
  pub siblings : rules.counts_siblings ≡ false → ¬ NamesDraft IsLaterName root
  pub whole : rules.is_whole ≡ true

-- and so are the schemas in it
abbrev pub inner : Rules → Rules
inner rules = record rules { is_whole = false }

-- ---- what an argument has to be in its place

abbrev pub begins_with_sign : List ℕ → Bool
begins_with_sign [] = false
begins_with_sign (c ∷ s) = nat_eq c 0x23

abbrev pub is_signed : Datum → Bool
is_signed (text u) = begins_with_sign (encode_utf8_all u)
is_signed _ = false

-- a name behind a sign; another one is for the whole alone
abbrev pub id_shape : Rules → Datum → Shape
id_shape rules a = if is_signed a then shape.Anchor else if rules.is_whole then shape.Any else shape.Undecided

abbrev pub format_shape : Rules → Shape
format_shape rules = if rules.asserts_formats then shape.Format else shape.Any

-- by the bytes of the keyword's name
abbrev pub shape_in : Rules → List ℕ → Datum → Shape
shape_in rules name a = shape_at name (format_shape rules) (id_shape rules a)

-- ---- names of schemas

abbrev pub is_letter : ℕ → Bool
is_letter c = is_ascii_alphabetic c || nat_eq c 0x5F

-- also a digit, a minus, a point or a colon
abbrev pub is_in_name : ℕ → Bool
is_in_name c = is_letter c || (is_ascii_digit c || (nat_eq c 0x2D || (nat_eq c 0x2E || nat_eq c 0x3A)))

abbrev pub are_in_name : List ℕ → Bool
are_in_name [] = true
are_in_name (c ∷ s) = is_in_name c && are_in_name s

abbrev pub is_anchor_name : List ℕ → Bool
is_anchor_name [] = false
is_anchor_name (c ∷ s) = is_letter c && are_in_name s

-- the same behind a sign
abbrev pub is_signed_name : List ℕ → Bool
is_signed_name [] = false
is_signed_name (c ∷ s) = nat_eq c 0x23 && is_anchor_name s

abbrev pub names_schema : List ℕ → List ℕ → Bool
names_schema keyword bytes = if pointwise nat_eq keyword (codes "$id") then is_signed_name bytes else is_anchor_name bytes

-- ---- why an argument isn't taken, apart from schemas in it

abbrev pub has_percent : List ℕ → Bool
has_percent [] = false
has_percent (c ∷ s) = nat_eq c 0x25 || has_percent s

-- a reference within the document, without an escape
abbrev pub is_followed : List ℕ → Bool
is_followed bytes = begins_with_sign bytes && not (has_percent bytes)

-- a text that isn't so, by its bytes
abbrev pub IsTextNot : (List ℕ → Bool) → Datum → Type 0
IsTextNot test a = (u : List ℕ) × (a ≡ text u) × (test (encode_utf8_all u) ≡ false)

abbrev pub is_format : List ℕ → Bool
is_format name = is_some (expression_named name)

-- a pattern, by its bytes, that the grammar of the kit's `regex` refuses
abbrev pub IsUnread : List ℕ → Type 0
IsUnread pattern = (kind : ErrorKind) × Refuses default_config (in_rust false pattern) kind

-- one that it reads, and that is too large to be compiled
abbrev pub IsLarge : List ℕ → Type 0
IsLarge pattern = IsPattern default_config (in_rust false pattern)

-- a pattern that is to be read: a text, the name of one's format, or a key of an object
abbrev pub IsPatternIn : Shape → Datum → List ℕ → Type 0
IsPatternIn shape.Pattern a bytes = (u : List ℕ) × (a ≡ text u) × (bytes ≡ encode_utf8_all u)
IsPatternIn shape.Format a bytes = (u : List ℕ) × (a ≡ text u) × (expression_named (encode_utf8_all u) ≡ Some bytes)
IsPatternIn shape.PatternSchemas (object fs) bytes = (u : List ℕ) × (s : Datum) × IsMember u s fs × (bytes ≡ encode_utf8_all u)
IsPatternIn _ a bytes = ⊥

-- so few that they are divided by: below 2^64
abbrev pub are_few_digits : List ℕ → Bool
are_few_digits ds = not (is_empty ds) && nat_lt (digits_value 10 ds) (2 ^ 64)

-- the digits of a number above zero are
abbrev pub has_few_digits : Datum → Bool
has_few_digits (number (whole z)) = int_le (pos 0) z && int_lt z (pos (2 ^ 64))
has_few_digits (number (decimal d)) = are_few_digits (digits_in d)
has_few_digits _ = false

-- it isn't what the keyword wants, be it for a schema's name or for the digits of a divisor
abbrev pub IsUnfit : List ℕ → Shape → Datum → Type 0
IsUnfit name k a = (has_outline k a ≡ false) ⊎ ((k ≡ shape.Anchor) × IsTextNot (names_schema name) a) ⊎ ((k ≡ shape.Divisor) × (has_few_digits a ≡ false))

abbrev pub IsWrong : Bool → List ℕ → Shape → Datum → Problem → Type 0
IsWrong strict name k a problem.Undecided = k ≡ shape.Undecided
IsWrong strict name k a (problem.Expected wanted) = ((wanted ≡ k) × IsUnfit name k a) ⊎ ((wanted ≡ shape.Schema) × (holds_schemas (holding_of k) a ≡ false))
IsWrong strict name k a problem.Elsewhere = (k ≡ shape.Reference) × IsTextNot is_followed a
IsWrong strict name k a problem.Pattern = (bytes : List ℕ) × IsPatternIn k a bytes × IsUnread bytes
IsWrong strict name k a problem.LargePattern = (bytes : List ℕ) × IsPatternIn k a bytes × IsLarge bytes
IsWrong strict name k a (problem.NoFormat likeliest) = (k ≡ shape.Format) × (strict ≡ true) × IsTextNot is_format a
IsWrong strict name k a _ = ⊥

-- ---- why a schema isn't taken

-- the keyword asks something, or isn't decided
abbrev pub is_asked : Shape → Bool
is_asked shape.Any = false
is_asked _ = true

abbrev pub asks_beside : List ℕ → Shape → Bool
asks_beside name k =
    if pointwise nat_eq name (codes "$ref") then false else
    if pointwise nat_eq name (codes "$defs") then false else
    if pointwise nat_eq name (codes "definitions") then false else
    is_asked k

abbrev pub refers : Datum → Bool
refers (object fs) = is_named (chars (codes "$ref")) fs
refers _ = false

-- a keyword asks something beside `$ref`, or its argument isn't taken, or a schema right in that isn't
pub data IsFaulty : Rules → Datum → Problem → Type 0 where
  beside : (rules : Rules) (s a : Datum) (name : List ℕ) → rules.counts_siblings ≡ false → refers s ≡ true → HasKeyword s name a
      → asks_beside (encode_utf8_all name) (shape_in rules (encode_utf8_all name) a) ≡ true → IsFaulty rules s problem.BesideReference
  wrong : (rules : Rules) (s a : Datum) (name : List ℕ) (p : Problem) → HasKeyword s name a
      → IsWrong rules.is_strict (encode_utf8_all name) (shape_in rules (encode_utf8_all name) a) a p → IsFaulty rules s p
  further : (rules : Rules) (s a t : Datum) (name : List ℕ) (p : Problem) → HasKeyword s name a
      → StandsBy (holding_of (shape_in rules (encode_utf8_all name) a)) a t → IsFaulty (inner rules) t p → IsFaulty rules s p

-- or it is none
abbrev pub IsFaultySchema : Rules → Datum → Problem → Type 0
IsFaultySchema rules s p = ((p ≡ problem.Expected shape.Schema) × (is_schema s ≡ false)) ⊎ IsFaulty rules s p

-- a keyword of it or of a schema in it is none
abbrev pub HasUnknown : Datum → Type 0
HasUnknown r = (s : Datum) × (a : Datum) × (name : List ℕ) × Subschema r s × HasKeyword s name a × (is_known (encode_utf8_all name) ≡ false)

abbrev pub IsNoKeyword : Problem → Type 0
IsNoKeyword (problem.NoKeyword likeliest) = Unit {0}
IsNoKeyword _ = ⊥

-- a schema isn't taken, of strict ones also for a keyword that is none
abbrev pub IsUntaken : Rules → Datum → Problem → Type 0
IsUntaken rules s p = IsFaultySchema rules s p ⊎ ((rules.is_strict ≡ true) × IsNoKeyword p × HasUnknown s)

-- ---- the whole

-- the member has this name and this text, by their bytes
abbrev pub gives : List ℕ → List ℕ → List ℕ → Datum → Bool
gives name bytes u (text v) = pointwise nat_eq (encode_utf8_all u) name && pointwise nat_eq (encode_utf8_all v) bytes
gives name bytes u _ = false

abbrev mutual
  -- how often such a member stands in the value
  pub times : List ℕ → List ℕ → Datum → ℕ
  times name bytes (array xs) = times_among name bytes xs
  times name bytes (object fs) = times_named name bytes fs
  times name bytes _ = 0

  pub times_among : List ℕ → List ℕ → Items → ℕ
  times_among name bytes no_item = 0
  times_among name bytes (item x xs) = times name bytes x + times_among name bytes xs

  pub times_named : List ℕ → List ℕ → Fields → ℕ
  times_named name bytes no_field = 0
  times_named name bytes (field u x fs) = (if gives name bytes u x then 1 else times name bytes x) + times_named name bytes fs

abbrev pub times_at : List ℕ → List ℕ → List ℕ → Datum → ℕ
times_at name bytes u x = if gives name bytes u x then 1 else times name bytes x

-- it has a reference with this text
abbrev pub Refers : Datum → List ℕ → Type 0
Refers root bytes = 1 ≤ times (codes "$ref") bytes root

-- a reference means this
abbrev pub IsMeant : Datum → Datum → Type 0
IsMeant root t = (bytes : List ℕ) × Refers root bytes × (behind_sign bytes root ≡ Some t)

-- two places give this name to a schema
abbrev pub IsNamedTwice : Datum → List ℕ → Type 0
IsNamedTwice root name = 2 ≤ times (codes "$anchor") name root + times (codes "$id") (0x23 ∷ name) root

-- ---- references that lead back

-- a schema in the argument of a keyword with this name, by its bytes, is applied to the value itself
abbrev pub is_alone : List ℕ → Bool
is_alone = is_any (codes "not" ∷ codes "if" ∷ codes "then" ∷ codes "else" ∷ [])

abbrev pub is_each : List ℕ → Bool
is_each = is_any (codes "allOf" ∷ codes "anyOf" ∷ codes "oneOf" ∷ [])

abbrev pub is_by_name : List ℕ → Bool
is_by_name = is_any (codes "dependentSchemas" ∷ codes "dependencies" ∷ [])

abbrev pub StandsInPlace : List ℕ → Datum → Datum → Type 0
StandsInPlace name a t = ((is_alone name ≡ true) × (t ≡ a)) ⊎ (((is_each name ≡ true) × IsElementOf t a) ⊎ ((is_by_name name ≡ true) × IsMemberOf t a))

-- the schema applies to the value itself what a reference with this text means
pub data LeadsOn : Datum → List ℕ → Type 0 where
  here : (s : Datum) (name bytes : List ℕ) → HasKeyword s name (text (chars bytes)) → encode_utf8_all name ≡ codes "$ref" → LeadsOn s bytes
  inside : (s a t : Datum) (name bytes : List ℕ) → HasKeyword s name a → StandsInPlace (encode_utf8_all name) a t → LeadsOn t bytes → LeadsOn s bytes

-- so a reference leads to another one, in one step or in several
pub data LeadsTo (root : Datum) : List ℕ → List ℕ → Type 0 where
  step : (t : Datum) (from to : List ℕ) → Refers root from → behind_sign from root ≡ Some t → LeadsOn t to → LeadsTo root from to
  steps : (from through to : List ℕ) → LeadsTo root from through → LeadsTo root through to → LeadsTo root from to

abbrev pub IsOfWhole : Datum → Problem → Type 0
IsOfWhole root problem.OldDraft = NamesDraft IsOldName root
IsOfWhole root problem.NoTarget = (bytes : List ℕ) × Refers root bytes × (behind_sign bytes root ≡ None)
IsOfWhole root problem.SameAnchor = (name : List ℕ) × IsNamedTwice root name
IsOfWhole root problem.Endless = (bytes : List ℕ) × LeadsTo root bytes bytes
IsOfWhole root _ = ⊥

-- the whole isn't taken, or what a reference means isn't; or the problem is one of the whole
abbrev pub IsRefusedFor : Rules → Datum → Problem → Type 0
IsRefusedFor rules root p = IsUntaken rules root p ⊎ (((t : Datum) × IsMeant root t × IsUntaken (inner rules) t p) ⊎ IsOfWhole root p)

-- memory was refused, or more brackets are open than can be copied
abbrev pub IsCopyRefusal : Datum → Error → Type 0
IsCopyRefusal x e = LacksMemory e ⊎ (SaysAt (code TooDeep) None e × (fits x ≡ false))

abbrev pub IsRefusedBy : Bool → Datum → Problem → Type 0
IsRefusedBy is_strict root p = (rules : Rules) × IsRuled is_strict root rules × IsRefusedFor rules root p

-- so a value isn't taken that is to be this schema, a strict one or not
abbrev pub IsRefused : Bool → Datum → Datum → SchemaFault → Type 0
IsRefused is_strict x root (faults.At place p) = IsRefusedBy is_strict root p
IsRefused is_strict x root (faults.Value e) = IsCopyRefusal x e

-- ---- private clauses alone cite these

-- memory was refused
abbrev pub IsOfMemory : SchemaFault → Type 0
IsOfMemory (faults.At place p) = ⊥
IsOfMemory (faults.Value e) = LacksMemory e

-- or there is this reason
abbrev pub IsFor : (Problem → Type 0) → SchemaFault → Type 0
IsFor why (faults.At place p) = why p
IsFor why (faults.Value e) = LacksMemory e

abbrev pub RefusedFor : {A : Type 0} → (Problem → Type 0) → Result A SchemaFault → Type 0
RefusedFor why result = IfErr result (IsFor why)
