-- Keys, and the law of a type that is read from one.
-- A promise rests on this.
-- JSON5 section 3 (a key is a string or an identifier).
use Rattle.std.specs.Prelude.{◌≡◌, ℕ, Bool, true, false, List, Option, Some, Result, IfOk, IfErr, IsOk}
use Rattle.json5_grammar.specs.Model.Collections.{ReadsKey}
use Rattle.json5_types.specs.declared.error.Error.{Error}
use Rattle.json5_tokens.specs.Cursor.{IsOutOfMemory}
use Rattle.json5_de.specs.State.{State, OnlyRead, SameText, FailsIfErr}
use Rattle.json5_de.specs.DeserializeLaw.{StaysFailed, Unprompted}

-- a key that spells u was read, with the blanks before it, and nothing else; escape_free says that no escape is used
pub record TookKey (old : State) (u : List ℕ) (escape_free : Bool) (new : State) : Type 0 where
  pub live : old.failed ≡ false
  pub reads : ReadsKey old.unread u escape_free new.unread
  pub rest : OnlyRead old new

-- what a key's text converts to, if it does; the Bool is true if it is escape-free
abbrev pub KeyConversion : Type 0 → Type 0
KeyConversion C = List ℕ → Bool → Option C

-- every key converts
abbrev pub every_key : KeyConversion (Unit {0})
every_key u escape_free = Some tt

-- a key was read, and v is what it converts to
abbrev pub GivesKey : {V C : Type 0} → (V → C) → KeyConversion C → State → State → V → Type 0
GivesKey content convert old new v = (u : List ℕ) × (escape_free : Bool) × TookKey old u escape_free new × (convert u escape_free ≡ Some (content v))

-- two values that may be read from one key have the same content, and leave the same
abbrev pub OneKeyAnswer : {V C : Type 0} → (V → C) → KeyConversion C → Type 0
OneKeyAnswer {V = V} content convert = (old new last : State) (v w : V) → GivesKey content convert old new v → GivesKey content convert old last w → (content v ≡ content w) × (new ≡ last)

-- if a key that converts can be read, this refusal says that memory ran out
pub record KeyOnlyForMemory {C : Type 0} (convert : KeyConversion C) (old : State) (e : Error) : Type 0 where
  pub memory : (u : List ℕ) (escape_free : Bool) (r : List ℕ) (c : C) → old.failed ≡ false → ReadsKey old.unread u escape_free r → convert u escape_free ≡ Some c → IsOutOfMemory e

-- a key that converts is read, unless memory runs out
abbrev pub CompletesKey : {V C : Type 0} → KeyConversion C → State → Result V Error → Type 0
CompletesKey convert old result = IfErr result (KeyOnlyForMemory convert old)

-- a key without an escape is read without memory
abbrev pub CompletesEscapeFreeKey : {V : Type 0} → State → Result V Error → Type 0
CompletesEscapeFreeKey old result = (u r : List ℕ) → old.failed ≡ false → ReadsKey old.unread u true r → IsOk result

-- any other is refused only if memory runs out
abbrev pub CompletesAnyKey : {V : Type 0} → State → Result V Error → Type 0
CompletesAnyKey old result = (u : List ℕ) (escape_free : Bool) (r : List ℕ) → old.failed ≡ false → ReadsKey old.unread u escape_free r → IfErr result (λ e. IsOutOfMemory e × (escape_free ≡ false))

-- one key is read from the front: the law of a key type
pub record ReadsKeyOf {V C : Type 0} (content : V → C) (convert : KeyConversion C) (refuses : State → Error → State → Type 0) (old new : State) (result : Result V Error) : Type 0 where
  pub sound : IfOk result (λ v. GivesKey content convert old new v)
  pub complete : CompletesKey convert old result
  pub refused : IfErr result (λ e. refuses old e new)
  pub unprompted : Unprompted old result
  pub same_text : SameText old new

-- the same, and after a refusal the reader has failed for good
pub record ReadsOneKey {V C : Type 0} (content : V → C) (convert : KeyConversion C) (refuses : State → Error → State → Type 0) (old new : State) (result : Result V Error) : Type 0 where
  pub sound : IfOk result (λ v. GivesKey content convert old new v)
  pub complete : CompletesKey convert old result
  pub refused : IfErr result (λ e. refuses old e new)
  pub unprompted : Unprompted old result
  pub same_text : SameText old new
  pub failed : FailsIfErr new result
  pub before : StaysFailed old new result
