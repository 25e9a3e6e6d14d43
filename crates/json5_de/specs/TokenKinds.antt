-- The kinds of values that one token makes, and the law of a method that reads one.
-- A promise rests on this.
use Rattle.std.specs.Prelude.{Bool, true, false, ℕ, ◌==◌, ◌||◌, List, ℤ, Option, Some, None, Result}
use Rattle.std.specs.String.{string_bytes}
use Rattle.std.specs.Borrow.{Bor}
use Rattle.std.specs.declared.string.String.{String}
use Rattle.std.specs.declared.alloc.Global.{Global}
use Rattle.json5_grammar.specs.Language.Characters.{letter_f, letter_n, letter_t}
use Rattle.json5_grammar.specs.declared.error_code.ErrorCode.{ErrorCode}
use Rattle.json5_grammar.specs.declared.error_code.ErrorCode.TheVariants as codes
use Rattle.json5_grammar.specs.Faults.Tokens.{is_sign, begins_number}
use Rattle.json5_grammar.specs.Language.Numbers.{Decimal}
use Rattle.json5_grammar.specs.Language.Strings.{is_quote}
use Rattle.json5_grammar.specs.Language.Trees.{Tree, text}
use Rattle.json5_types.specs.declared.byte_buf.ByteBuf.{ByteBuf}
use Rattle.json5_types.specs.declared.cow_str.CowStr.{CowStr}
use Rattle.json5_types.specs.declared.error.Error.{Error}
use Rattle.json5_types.specs.ByteBufs.{bytes_of}
use Rattle.json5_types.specs.Cows.{cow_bytes, is_borrowed}
use Rattle.json5_de.specs.State.{State}
use Rattle.json5_de.specs.DeserializeLaw.{ReadsValue}
use Rattle.json5_de.specs.Convert.{unit_of, bool_of, as_number, as_whole, natural_below, integer_below, every_decimal, as_text, every_text, if_escape_free, every_cow, one_character, index_of, digits_bytes}
use Rattle.json5_de.specs.Faults.{RefusedBy, RefusedByOrMemory, FaultyNull, FaultyBool, NotNumber, NotText, EndsWith, EndsWithOrMemory, DiffersWith, DiffersWithOrMemory}
use Rattle.json5_read.specs.EntryFaults.{FaultRelation}

-- a kind of value: the faults where one is expected, what each tree gives, which trees are read without memory,
-- what begins one, the codes at the end and at another character, and whether it may be refused because memory ran out
pub record Kind (C : Type 0) : Type 1 where
  pub IsFault : FaultRelation
  pub convert : Tree → Option C
  pub allocation_free : Tree → Bool
  pub begins : ℕ → Bool
  pub ends : ErrorCode
  pub differs : ErrorCode
  pub may_lack_memory : Bool

abbrev pub RefusedWith : Bool → FaultRelation → State → Error → Type 0
RefusedWith false IsFault old e = RefusedBy IsFault old e
RefusedWith true IsFault old e = RefusedByOrMemory IsFault old e

-- refused with a fault of the kind
abbrev pub RefusedAs : {C : Type 0} → Kind C → State → Error → State → Type 0
RefusedAs kind old e new = RefusedWith kind.may_lack_memory kind.IsFault old e

-- one value of the kind is read from the front
abbrev pub ReadsAs : {V C : Type 0} → Kind C → (V → C) → State → State → Result V Error → Type 0
ReadsAs kind content old new result = ReadsValue content kind.convert kind.allocation_free (RefusedAs kind) old new result

abbrev pub EndsWhere : {V : Type 0} → Bool → ErrorCode → State → Result V Error → Type 0
EndsWhere false ends old result = EndsWith ends old result
EndsWhere true ends old result = EndsWithOrMemory ends old result

abbrev pub DiffersWhere : {V : Type 0} → Bool → (ℕ → Bool) → ErrorCode → State → Result V Error → Type 0
DiffersWhere false begins differs old result = DiffersWith begins differs old result
DiffersWhere true begins differs old result = DiffersWithOrMemory begins differs old result

-- the code at the end
abbrev pub EndsAs : {V C : Type 0} → Kind C → State → Result V Error → Type 0
EndsAs kind old result = EndsWhere kind.may_lack_memory kind.ends old result

-- the code at a character that begins nothing of the kind
abbrev pub DiffersAs : {V C : Type 0} → Kind C → State → Result V Error → Type 0
DiffersAs kind old result = DiffersWhere kind.may_lack_memory kind.begins kind.differs old result

-- trees whose contents need no memory: all, or none
abbrev pub every_tree : Tree → Bool
every_tree t = true

abbrev pub no_tree : Tree → Bool
no_tree t = false

-- a string without a backslash
abbrev pub escape_free_text : Tree → Bool
escape_free_text (text u escape_free) = escape_free
escape_free_text _ = false

-- ---- the kinds

abbrev pub null_kind : Kind (Unit {0})
null_kind = record { IsFault = FaultyNull; convert = unit_of; allocation_free = every_tree; begins = λ c. c == letter_n; ends = codes.EofParsingNull; differs = codes.ExpectedNull; may_lack_memory = false }

abbrev pub bool_kind : Kind Bool
bool_kind = record { IsFault = FaultyBool; convert = bool_of; allocation_free = every_tree; begins = λ c. (c == letter_t) || (c == letter_f); ends = codes.EofParsingBool; differs = codes.ExpectedBool; may_lack_memory = false }

-- a whole number that converts
abbrev pub whole_kind : {C : Type 0} → (ℤ → Option C) → Kind C
whole_kind f = record { IsFault = NotNumber (as_whole f); convert = as_number (as_whole f); allocation_free = every_tree; begins = λ c. is_sign c || begins_number c; ends = codes.EofParsingNumber; differs = codes.ExpectedNumber; may_lack_memory = true }

-- from 0 to below the bound
abbrev pub natural_kind : ℕ → Kind ℕ
natural_kind bound = whole_kind (natural_below bound)

-- from the bound's negative to below the bound
abbrev pub integer_kind : ℕ → Kind ℤ
integer_kind bound = whole_kind (integer_below bound)

abbrev pub decimal_kind : Kind Decimal
decimal_kind = record { IsFault = NotNumber every_decimal; convert = as_number every_decimal; allocation_free = no_tree; begins = λ c. is_sign c || begins_number c; ends = codes.EofParsingNumber; differs = codes.ExpectedNumber; may_lack_memory = true }

-- a string whose text converts; else this code at the quote, None for a custom message
abbrev pub coded_text_kind : {C : Type 0} → Option ErrorCode → (List ℕ → Bool → Option C) → (Tree → Bool) → Kind C
coded_text_kind other f allocation_free = record { IsFault = NotText other f; convert = as_text f; allocation_free = allocation_free; begins = is_quote; ends = codes.EofParsingString; differs = codes.ExpectedString; may_lack_memory = true }

-- a string whose text converts; else a custom message
abbrev pub text_kind : {C : Type 0} → (List ℕ → Bool → Option C) → (Tree → Bool) → Kind C
text_kind = coded_text_kind None

abbrev pub string_kind : Kind (List ℕ)
string_kind = text_kind every_text no_tree

-- one character; an escape-free string takes no memory
abbrev pub char_kind : Kind ℕ
char_kind = text_kind one_character escape_free_text

-- a string without a backslash
abbrev pub escape_free_kind : Kind (List ℕ)
escape_free_kind = text_kind if_escape_free every_tree

-- a string, and whether it is escape-free, which then takes no memory
abbrev pub cow_kind : Kind (List ℕ × Bool)
cow_kind = text_kind every_cow escape_free_text

-- one of these names, by its first index among them; an escape-free string takes no memory
abbrev pub variant_kind : List (List ℕ) → Kind ℕ
variant_kind names = text_kind (index_of names) escape_free_text

-- bytes, as a string of hexadecimal digits
abbrev pub bytes_kind : Kind (List ℕ)
bytes_kind = coded_text_kind (Some codes.InvalidBytes) digits_bytes no_tree

-- ---- calls of more than one name

abbrev pub ReadsNull : State → State → Result (Unit {0}) Error → Type 0
ReadsNull old new result = ReadsAs null_kind (λ _. tt) old new result

abbrev pub ReadsBytes : State → State → Result ByteBuf Error → Type 0
ReadsBytes old new result = ReadsAs bytes_kind bytes_of old new result

abbrev pub ReadsDecimal : State → State → Result Decimal Error → Type 0
ReadsDecimal old new result = ReadsAs decimal_kind (λ d. d) old new result

abbrev pub ReadsString : State → State → Result (String Global) Error → Type 0
ReadsString old new result = ReadsAs string_kind string_bytes old new result

abbrev pub ReadsEscapeFree : State → State → Result (Bor (List ℕ)) Error → Type 0
ReadsEscapeFree old new result = ReadsAs escape_free_kind (λ t. t.now) old new result

abbrev pub ReadsCow : State → State → Result CowStr Error → Type 0
ReadsCow old new result = ReadsAs cow_kind (λ t. (cow_bytes t, is_borrowed t)) old new result

-- ---- the codes, which follow from the law of a read

-- each read of such a value is refused with the code `ends` of the kind at the end, and with `differs` at a character that begins nothing of it
abbrev pub TellsApart : {V C : Type 0} → Kind C → (V → C) → Type 0
TellsApart {V = V} kind content = (old new : State) (result : Result V Error) → ReadsAs kind content old new result → EndsAs kind old result × DiffersAs kind old result

-- the bytes of a `String`
abbrev pub text_bytes : String Global → List ℕ
text_bytes s = string_bytes s

-- the bytes of a `&str`
abbrev pub slice_bytes : Bor (List ℕ) → List ℕ
slice_bytes s = s.now
