-- Why a list is refused.
-- A promise rests on this.
use Rattle.std.specs.Prelude.{◌≡◌, ◌⊎◌, ◌<◌, ℕ, zero, suc, Bool, true, false, List, ◌∷◌, ◌++◌, length, Option, Some, None, is_some, Result, Ok, Err}
use Rattle.std.specs.Str.{encode_utf8_all}
use Rattle.json5_grammar.specs.declared.error_code.ErrorCode.TheVariants as codes
use Rattle.json5_grammar.specs.Language.Characters.{left_bracket}
use Rattle.json5_grammar.specs.Language.Trees.{Tree, Trees, no_more, more}
use Rattle.json5_types.specs.declared.error.Error.{Error}
use Rattle.json5_tokens.specs.Cursor.{Says, IsOutOfMemory}
use Rattle.json5_types.specs.Errors.{LacksMemory}
use Rattle.json5_de.specs.State.{State}
use Rattle.json5_read.specs.Brackets.{square}
use Rattle.json5_de.specs.Faults.{RefusedBy, IsPositionless}
use Rattle.json5_de.specs.Arrays.{AccessState, Opened, AtClose, NotOpened, NotClosed, ElementsRead, LeavesFewer, IsAtBracket}
use Rattle.json5_de.specs.AccessCalls.{RefusedAtBracket}

-- ---- the elements of a list

-- what is expected at an index of a list: which trees convert, and how its type refuses
pub record Element : Type 1 where
  pub accepts : Tree → Bool
  pub refuses : State → Error → State → Type 0

abbrev pub element : {C : Type 0} → (Tree → Option C) → (State → Error → State → Type 0) → Element
element convert refuses = record { accepts = λ t. is_some (convert t); refuses = refuses }

-- what is expected at each index
abbrev pub Elements : Type 1
Elements = ℕ → Element

-- the same at every index
abbrev pub every : Element → Elements
every e n = e

-- one, and the others after it
abbrev pub first_then : Element → Elements → Elements
first_then e others zero = e
first_then e others (suc n) = others n

abbrev pub count : Trees → ℕ
count no_more = 0
count (more t ts) = suc (count ts)

-- each element converts at its index
abbrev pub Accepted : Elements → Trees → Type 0
Accepted es no_more = Unit {0}
Accepted es (more t ts) = ((es 0).accepts t ≡ true) × Accepted (λ n. es (suc n)) ts

-- ---- an element that has to be there

-- a custom message, or memory ran out, at the opening bracket
abbrev pub IsTooShort : AccessState → Error → Type 0
IsTooShort old e = (IsOutOfMemory e ⊎ Says None e) × IsAtBracket old e

-- the element's fault, or the list ends before it
pub data RefusesRequired (refuses : State → Error → State → Type 0) (old : AccessState) (e : Error) : Type 0 where
  at_fault : RefusedAtBracket refuses old e → RefusesRequired refuses old e
  missing : (at : State) → AtClose square old.comma_due old.reader at → IsTooShort old e → RefusesRequired refuses old e

-- if elements are left and the first converts, it was read, unless memory ran out, and the others are left; if no element is left, none was read
abbrev pub LeavesRequired : {V C : Type 0} → (V → C) → (Tree → Option C) → Trees → List ℕ → AccessState → Result V Error → Type 0
LeavesRequired content convert ts r new (Ok v) = LeavesFewer content convert ts r new (Ok (Some v))
LeavesRequired content convert no_more r new (Err e) = Unit {0}
LeavesRequired content convert (more t ts) r new (Err e) = LeavesFewer content convert (more t ts) r new (Err e)

-- ---- a list

-- the list was opened, and so many elements of it were read, each of which converts
pub record ReadWithin (es : Elements) (old : State) (now : AccessState) (n : ℕ) : Type 0 where
  pub first : State
  pub opened : Opened square old first
  pub start : (before : List ℕ) → old.input ≡ before ++ left_bracket ∷ first.unread → now.start ≡ length (encode_utf8_all before)
  pub trees : Trees
  pub counted : count trees ≡ n
  pub read : ElementsRead old trees now
  pub accepted : Accepted es trees

-- how many elements a list has, None for any number, and whether memory is taken to gather them
pub record Shape : Type 0 where
  pub size : Option ℕ
  pub gathers : Bool

abbrev pub any_number : Shape
any_number = record { size = None; gathers = true }

abbrev pub array_of_size : ℕ → Shape
array_of_size n = record { size = Some n; gathers = true }

abbrev pub tuple_of_size : ℕ → Shape
tuple_of_size n = record { size = Some n; gathers = false }

-- such a list has an element at this index
abbrev pub HasElement : Option ℕ → ℕ → Type 0
HasElement None place = Unit {0}
HasElement (Some n) place = place < n

-- why a list is refused: its opening bracket, the first element at fault, elements that are missing or too many, or memory that ran out
pub data ListFault (es : Elements) (shape : Shape) (old : State) (e : Error) : Type 0 where
  not_opened : RefusedBy (NotOpened square old.level) old e → ListFault es shape old e
  at_element : (now : AccessState) (n : ℕ) → ReadWithin es old now n → HasElement shape.size n → RefusedAtBracket (es n).refuses now e → ListFault es shape old e
  too_few : (now : AccessState) (n size : ℕ) → ReadWithin es old now n → shape.size ≡ Some size → n < size → (at : State) → AtClose square now.comma_due now.reader at → IsTooShort now e → ListFault es shape old e
  too_many : (now : AccessState) (n : ℕ) → ReadWithin es old now n → shape.size ≡ Some n → RefusedBy (NotClosed square now.comma_due) now.reader e → ListFault es shape old e
  no_memory : shape.gathers ≡ true → LacksMemory e → ListFault es shape old e

-- how a list is refused: after it the reader has failed for good
pub record RefusesList (es : Elements) (shape : Shape) (old : State) (e : Error) (new : State) : Type 0 where
  pub cause : old.failed ≡ false → ListFault es shape old e
  pub failed : new.failed ≡ true
  pub before : old.failed ≡ true → IsPositionless codes.Failed e
