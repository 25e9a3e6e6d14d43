-- Why parts of a schema aren't taken, step by step.
-- A promise rests on this.
use Rattle.std.specs.Prelude.{◌≡◌, ◌⊎◌, ℕ, Bool, true, false, List, Some, None}
use lib.Chars.{codes}
use Rattle.std.specs.Str.{chars, encode_utf8_all}
use Rattle.regex.specs.declared.error.Error as regex
use Rattle.regex.specs.declared.error.Error.TheVariants as unread
use Rattle.json5_types.specs.ValueMeanings.{Datum, text, Fields}
use Rattle.json5_schema.specs.declared.faults.Problem.{Problem}
use Rattle.json5_schema.specs.declared.faults.Problem.TheVariants as problem
use Rattle.json5_schema.specs.declared.looking.Rules.{Rules}
use Rattle.json5_schema.specs.declared.shape.Shape.{Shape}
use Rattle.json5_schema.specs.declared.shape.Shape.TheVariants as shape
use Rattle.json5_schema.specs.declared.shape.Holding.{Holding}
use Rattle.json5_schema.specs.declared.shape.Holding.TheVariants as holding
use Rattle.json5_schema.specs.Conformance.{behind_sign}
use Rattle.json5_schema.specs.Formats.{expression_named}
use Rattle.json5_schema.specs.Refusals.{asks_beside, inner, is_followed, is_format, names_schema, shape_in, HasUnknown, IsFaulty, IsFaultySchema, IsLarge, IsMeant, IsNamedTwice, IsNoKeyword, IsOldName, IsUnread, IsUntaken, IsWrong, LeadsOn, LeadsTo, NamesDraft, Refers, StandsInPlace}
use Rattle.json5_schema.specs.Shapes.{has_outline, holding_of, holds_schemas, is_names, IsElementOf, IsMemberOf, IsShaped, StandsBy}
use Rattle.json5_schema.specs.Subschemas.{is_known, HasOnlyKeywords, IsMember, StandsIn}

-- ---- texts

abbrev pub IsNoReference : List ℕ → Problem → Type 0
IsNoReference bytes p = (p ≡ problem.Elsewhere) × (is_followed bytes ≡ false)

abbrev pub IsNoName : List ℕ → List ℕ → Problem → Type 0
IsNoName keyword bytes p = (p ≡ problem.Expected shape.Anchor) × (names_schema keyword bytes ≡ false)

-- what the kit's `regex` says of a pattern; the rest is memory
abbrev pub IsProblemOf : regex.Error → Problem → Type 0
IsProblemOf (unread.Syntax e) p = p ≡ problem.Pattern
IsProblemOf unread.CompiledTooBig p = p ≡ problem.LargePattern
IsProblemOf _ p = ⊥

abbrev pub IsPatternFault : List ℕ → Problem → Type 0
IsPatternFault bytes p = ((p ≡ problem.Pattern) × IsUnread bytes) ⊎ ((p ≡ problem.LargePattern) × IsLarge bytes)

abbrev pub IsKeyFault : Fields → Problem → Type 0
IsKeyFault fs p = (u : List ℕ) × (s : Datum) × IsMember u s fs × IsPatternFault (encode_utf8_all u) p

abbrev pub IsNoFormat : Problem → Type 0
IsNoFormat (problem.NoFormat likeliest) = Unit {0}
IsNoFormat _ = ⊥

-- a format that strict schemas don't take, or whose expression isn't read
abbrev pub IsFormatFault : Rules → List ℕ → Problem → Type 0
IsFormatFault rules name p = ((bytes : List ℕ) × (expression_named name ≡ Some bytes) × IsPatternFault bytes p) ⊎ (IsNoFormat p × (rules.is_strict ≡ true) × (is_format name ≡ false))

-- ---- arguments

abbrev pub IsOutOfShape : Shape → Datum → Problem → Type 0
IsOutOfShape k a p = ((p ≡ problem.Undecided) × (k ≡ shape.Undecided)) ⊎ ((p ≡ problem.Expected k) × (has_outline k a ≡ false))

-- what stands there is no schema, or one that isn't taken
abbrev pub IsFaultyBy : Rules → Holding → Datum → Problem → Type 0
IsFaultyBy rules h a p = ((p ≡ problem.Expected shape.Schema) × (holds_schemas h a ≡ false)) ⊎ ((t : Datum) × StandsBy h a t × IsFaulty rules t p)

abbrev pub IsFaultyArgument : Rules → List ℕ → Shape → Datum → Problem → Type 0
IsFaultyArgument rules name k a p = IsWrong rules.is_strict name k a p ⊎ IsFaultyBy rules (holding_of k) a p

-- a keyword, which may stand where it counts in some drafts alone
abbrev pub IsFaultyKeyword : Rules → Bool → List ℕ → Datum → Problem → Type 0
IsFaultyKeyword rules refers name a p =
    ((p ≡ problem.BesideReference) × (refers ≡ true) × (asks_beside name (shape_in rules name a) ≡ true)) ⊎ IsFaultyArgument (inner rules) name (shape_in rules name a) a p

-- members of an object, of which some may be names
abbrev pub members_by : Bool → Holding
members_by false = holding.Members
members_by true = holding.MembersOrNames

abbrev pub IsFaultyMember : Rules → Bool → Datum → Problem → Type 0
IsFaultyMember rules or_names s p = (or_names ≡ true → is_names s ≡ false) × IsFaultySchema rules s p

-- ---- keywords that are none

abbrev pub IsUnknownIn : Datum → Problem → Type 0
IsUnknownIn s p = IsNoKeyword p × HasUnknown s

abbrev pub IsUnknownBelow : List ℕ → Datum → Problem → Type 0
IsUnknownBelow name a p = (s : Datum) × StandsIn name a s × IsUnknownIn s p

abbrev pub IsUnknownThrough : List ℕ → Datum → Problem → Type 0
IsUnknownThrough name a p = (IsNoKeyword p × (is_known name ≡ false)) ⊎ IsUnknownBelow name a p

abbrev pub IsUnknownAmong : Datum → Problem → Type 0
IsUnknownAmong a p = (s : Datum) × IsElementOf s a × IsUnknownIn s p

abbrev pub IsUnknownNamed : Datum → Problem → Type 0
IsUnknownNamed a p = (s : Datum) × IsMemberOf s a × IsUnknownIn s p

-- ---- the draft

-- the value names such a draft
abbrev pub IsDraft : (List ℕ → Type 0) → Datum → Type 0
IsDraft P x = (u : List ℕ) × (x ≡ text u) × P (encode_utf8_all u)

abbrev pub IsOfOldDraft : Datum → Problem → Type 0
IsOfOldDraft root p = (p ≡ problem.OldDraft) × NamesDraft IsOldName root

-- it counts what stands beside references if a draft is named in which that counts
abbrev pub CountsBeside : Type 0 → Bool → Type 0
CountsBeside names counts = counts ≡ false → ¬ names

-- ---- references

-- it is taken, and by strict rules it has no keyword but known ones
abbrev pub IsTakenBy : Rules → Datum → Type 0
IsTakenBy rules s = IsShaped s × (rules.is_strict ≡ true → HasOnlyKeywords s)

-- what a reference means isn't taken
abbrev pub IsOfTarget : Rules → Datum → Problem → Type 0
IsOfTarget rules root p = (t : Datum) × IsMeant root t × IsUntaken (inner rules) t p

-- some reference means nothing
abbrev pub LeadsNowhere : Datum → Type 0
LeadsNowhere root = (bytes : List ℕ) × Refers root bytes × (behind_sign bytes root ≡ None)

abbrev pub IsOfReference : Rules → Datum → Problem → Type 0
IsOfReference rules root p = IsOfTarget rules root p ⊎ ((p ≡ problem.NoTarget) × LeadsNowhere root)

-- two places give the same name to a schema
abbrev pub HasTwice : Datum → Type 0
HasTwice root = (name : List ℕ) × IsNamedTwice root name

-- ---- references that lead back

-- the argument of a keyword with this name does
abbrev pub LeadsBy : List ℕ → Datum → List ℕ → Type 0
LeadsBy name a bytes = ((name ≡ codes "$ref") × (a ≡ text (chars bytes))) ⊎ ((t : Datum) × StandsInPlace name a t × LeadsOn t bytes)

abbrev pub LeadsAmong : Datum → List ℕ → Type 0
LeadsAmong a bytes = (t : Datum) × IsElementOf t a × LeadsOn t bytes

abbrev pub LeadsNamed : Datum → List ℕ → Type 0
LeadsNamed a bytes = (t : Datum) × IsMemberOf t a × LeadsOn t bytes

-- some reference leads back to itself
abbrev pub LeadsBack : Datum → Type 0
LeadsBack root = (bytes : List ℕ) × LeadsTo root bytes bytes
