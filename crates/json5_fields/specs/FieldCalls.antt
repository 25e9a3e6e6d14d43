-- What the calls for a description of fields mean.
-- A promise rests on this.
use Rattle.std.specs.Prelude.{◌≡◌, ◌⊎◌, ℕ, Bool, true, false, List, Option, Some, None, is_some, Result, Ok, Err, OnOk}
use Rattle.json5_grammar.specs.Language.Trees.{Tree}
use Rattle.json5_types.specs.declared.error.Error.{Error}
use Rattle.json5_tokens.specs.Cursor.{IsOutOfMemory}
use Rattle.json5_de.specs.State.{State, SameText}
use Rattle.json5_de.specs.DeserializeLaw.{IsUnprompted}
use Rattle.json5_de.specs.Fields.{IsOwnAtBracket}
use Rattle.json5_de.specs.ConvertLists.{if_some}
use Rattle.json5_de.specs.ObjectFaults.{ValueRefusedAtBrace}
use Rattle.json5_de.specs.Objects.{MapAccessState}
use Rattle.json5_de.specs.KeyPlaces.{IsOwnAtKey}
use Rattle.json5_de.specs.Plans.{TakesFree, TakesMember, at_name}
use Rattle.json5_de.specs.StructFaults.{ValueFaults, RefusesMember}
use Rattle.json5_de.specs.Lending.{map_state_of, KeepsMap, NoKeyPending, HoldsTheSameMap}
use Rattle.json5_de.specs.declared.map.MapAccess.{MapAccess}
use Rattle.json5_fields.specs.Layouts.{Layout, has_name}
use Rattle.json5_fields.specs.Spares.{spared}

-- the faults of a field of this type, by whatever name: its first value is refused as its type refuses it, and a second value isn't allowed
pub data of_type {C : Type 0} (convert : Tree → Option C) (refuses : State → Error → State → Type 0) (name : List ℕ) (may : Tree → Bool) (old : MapAccessState) (e : Error) : Type 0 where
  first_value : ((t : Tree) → may t ≡ is_some (convert t)) → ValueRefusedAtBrace refuses old e → of_type convert refuses name may old e
  second_value : ((t : Tree) → may t ≡ false) → IsOwnAtKey name old e → of_type convert refuses name may old e

-- the value of the key that was read, which has this name, fills its field, or is refused
pub record TakesNamed {I V C : Type 0} (content : V → C) (convert : Tree → Option C) (refuses : State → Error → State → Type 0) (name : List ℕ) (old new : MapAccess I) (field next : Option V) (result : Result (Unit {0}) Error) : Type 0 where
  pub takes : TakesMember (at_name convert name) (if_some content field) (if_some content next) name (map_state_of old) (map_state_of new) result
  pub refused : RefusesMember (of_type convert refuses) (at_name convert name) (if_some content field) name (map_state_of old) result
  pub access : KeepsMap old new
  pub pending : OnOk result (NoKeyPending new)

-- it does so without memory, where its type reads it without
abbrev pub TakesNamedFree : {I V C : Type 0} → (V → C) → (Tree → Option C) → (Tree → Bool) → List ℕ → (old : MapAccess I) → (field : Option V) → Result (Unit {0}) Error → Type 0
TakesNamedFree content convert allocation_free name old field result = TakesFree (spared convert allocation_free) (at_name convert name) (if_some content field) name (map_state_of old) result

-- the value of the key that was read is that of a field here: s is what was read of the fields before, n after it
pub record TakesHere {I S D : Type 0} (l : Layout S D) (faults : ValueFaults) (s n : S) (name : List ℕ) (old new : MapAccess I) (result : Result (Unit {0}) Error) : Type 0 where
  pub named : has_name l.names name ≡ true
  pub takes : TakesMember l.step s n name (map_state_of old) (map_state_of new) result
  pub refused : RefusesMember faults l.step s name (map_state_of old) result
  pub access : KeepsMap old new
  pub pending : OnOk result (NoKeyPending new)

-- no field here has its name, and nothing happened
pub record PassesHere {I S D : Type 0} (l : Layout S D) (s n : S) (name : List ℕ) (old new : MapAccess I) : Type 0 where
  pub other : has_name l.names name ≡ false
  pub fields : n ≡ s
  pub access : new ≡ old

-- says whether a field here has the name; if so, its value was read
abbrev pub Tries : {I S D : Type 0} → Layout S D → ValueFaults → S → S → List ℕ → MapAccess I → MapAccess I → Result Bool Error → Type 0
Tries l faults s n name old new (Ok true) = TakesHere l faults s n name old new (Ok tt)
Tries l faults s n name old new (Ok false) = PassesHere l s n name old new
Tries l faults s n name old new (Err e) = TakesHere l faults s n name old new (Err e)

-- what was read makes d
pub record Finished {I S D : Type 0} (l : Layout S D) (s : S) (d : D) (old new : MapAccess I) : Type 0 where
  pub built : l.build s ≡ Some d
  pub same : map_state_of new ≡ map_state_of old
  pub same_reference : HoldsTheSameMap old new

-- a field is missing, or a default couldn't be made
pub record Missed {I S D : Type 0} (l : Layout S D) (s : S) (old new : MapAccess I) (e : Error) : Type 0 where
  pub missing : (map_state_of old).at.reader.failed ≡ false → ((l.build s ≡ None) ⊎ IsOutOfMemory e) × IsOwnAtBracket (map_state_of old).at e
  pub unprompted : (map_state_of old).at.reader.failed ≡ false → IsUnprompted e
  pub same_text : SameText (map_state_of old).at.reader (map_state_of new).at.reader
  pub same_reference : HoldsTheSameMap old new

abbrev pub Finishes : {I S D V : Type 0} → Layout S D → (V → D) → S → MapAccess I → MapAccess I → Result V Error → Type 0
Finishes l content s old new (Ok v) = Finished l s (content v) old new
Finishes l content s old new (Err e) = Missed l s old new e
