-- An access and the reader that is lent to it.
-- A promise rests on this.
use Rattle.std.specs.Prelude.{◌≡◌, ◌<◌, ℕ, Bool, true, false, List, length, Option, None, is_some, Result, IfOk, IfSome}
use Rattle.json5_read.specs.Brackets.{square, curly}
use Rattle.std.specs.Borrow.{Fml, RattleType, MutBor, RestsIfErr}
use Rattle.json5_types.specs.declared.error.Error.{Error}
use Rattle.json5_types.specs.declared.byte_buf.ByteBuf.{ByteBuf}
use Rattle.json5_types.specs.declared.cow_str.CowStr.{CowStr}
use Rattle.json5_tokens.specs.declared.input.Input as input
use Rattle.json5_types.specs.ByteBufs.{bytes_of}
use Rattle.json5_types.specs.Cows.{cow_bytes, is_borrowed}
use Rattle.json5_de.specs.State.{State, SameText, GivesUp}
use Rattle.json5_grammar.specs.Language.Trees.{Tree, Trees, Members}
use Rattle.json5_de.specs.Arrays.{AccessState, IsFailedAtBracket, OpensArray, GivesElement, ReadsElement, CompletesClose, ReadsMore, ElementsLeft, LeavesFewer}
use Rattle.json5_de.specs.DeserializeLaw.{IsUnprompted}
use Rattle.json5_de.specs.Fields.{IsOwnAtBracket}
use Rattle.json5_de.specs.AccessCalls.{RefusesNext}
use Rattle.json5_de.specs.Keys.{KeyConversion, ReadsOneKey}
use Rattle.json5_de.specs.TokenKinds.{null_kind}
use Rattle.json5_de.specs.KeyKinds.{KeyKind, RefusedAsKey, bytes_key, cow_key, document_key}
use Rattle.json5_de.specs.Objects.{MapAccessState, KeepsPending, OpensMap, SetsPending, GivesMemberKey, GivesMemberValue, ReadsMemberKey, ReadsMemberValue, ReadsAKey, ReadsAMember, MembersLeft, LeavesAValue, LeavesOthers}
use Rattle.json5_de.specs.ObjectFaults.{RefusesNextKey, RefusesNextValue}
use Rattle.json5_de.specs.Progress.{HoldsReader, array_at, holding, object_at}
use Rattle.json5_de.specs.KeyPlaces.{KeyBegins, ReadKeyBegins}
use Rattle.json5_de.specs.Enums.{EnumAccessState}
use Rattle.json5_de.specs.declared.enums.EnumAccess.{EnumAccess}
use Rattle.json5_de.specs.declared.enums.Named.{Named}
use Rattle.json5_de.specs.declared.key.MapKey.{MapKey}
use Rattle.json5_de.specs.declared.map.MapAccess.{MapAccess}
use Rattle.json5_de.specs.declared.seq.SeqAccess.{SeqAccess}
use Rattle.json5_de.specs.contracts.de.Deserializer.{the_row}

module _ {I : Type 0} where
  abbrev pub state_of : SeqAccess I → AccessState
  state_of s = array_at s.de.now s.progress

  -- the count of bytes before the brace that its end closes too: that of the variant whose content it reads
  abbrev pub brace_of : SeqAccess I → Option ℕ
  brace_of s = s.progress.brace

  abbrev pub map_brace : MapAccess I → Option ℕ
  map_brace m = m.progress.brace

  -- the reader itself, as the access holds it
  abbrev pub reader_of_access : SeqAccess I → State
  reader_of_access s = s.de.now

  abbrev pub reader_of_map : MapAccess I → State
  reader_of_map m = m.de.now

  -- it still holds the same one, and its end closes the same
  abbrev pub HoldsTheSame : SeqAccess I → SeqAccess I → Type 0
  HoldsTheSame old new = holding new.de new.progress ≡ holding old.de old.progress

  -- it holds this reader, and blocks it; if `brace` is Some, its end closes that brace too
  abbrev pub HoldsBlocked : MutBor State → Option ℕ → SeqAccess I → Type 0
  HoldsBlocked reader brace s = HoldsReader reader brace s.de s.progress

  -- the access that blocks its reader, and whether a call was refused
  abbrev pub blocking : SeqAccess I → Bool → SeqAccess I
  blocking s failed = record s { de = record s.de { now = record s.de.now { failed = true } }; progress = record s.progress { failed = failed } }

  abbrev pub map_state_of : MapAccess I → MapAccessState
  map_state_of m = object_at m.de.now m.progress

  -- the same, had its object begun at this offset
  abbrev pub beginning_at : ℕ → MapAccess I → AccessState
  beginning_at start m = record (map_state_of m).at { start = start }

  -- the key that was read last, in place of the opening brace
  abbrev pub at_its_key : MapAccess I → AccessState
  at_its_key m = beginning_at m.key_start m

  -- the key that was read last has this name, and begins where the access says
  abbrev pub KeyIsNamed : List ℕ → MapAccess I → Type 0
  KeyIsNamed name m = KeyBegins name m.key_start m.de.now.input m.de.now.unread

  -- a key was read and its value wasn't yet
  abbrev pub KeyPending : MapAccess I → Type 0
  KeyPending m = (map_state_of m).pending ≡ true

  abbrev pub NoKeyPending : MapAccess I → Type 0
  NoKeyPending m = (map_state_of m).pending ≡ false

  -- the value of the pending key is taken; a refusal leaves the key pending
  abbrev pub TakesPendingKey : {V : Type 0} → MapAccess I → MapAccess I → Result V Error → Type 0
  TakesPendingKey old new result = SetsPending (λ _. false) (map_state_of old) (map_state_of new) result

  -- the same of an access to an object
  abbrev pub HoldsTheSameMap : MapAccess I → MapAccess I → Type 0
  HoldsTheSameMap old new = holding new.de new.progress ≡ holding old.de old.progress

  abbrev pub HoldsMapBlocked : MutBor State → Option ℕ → MapAccess I → Type 0
  HoldsMapBlocked reader brace m = HoldsReader reader brace m.de m.progress

  abbrev pub blocking_map : MapAccess I → Bool → MapAccess I
  blocking_map m failed = record m { de = record m.de { now = record m.de.now { failed = true } }; progress = record m.progress { failed = failed } }

-- a name that was read, and the reader after it
abbrev pub named_state_of : State → Named → EnumAccessState
named_state_of reader n = record { reader = reader; start = n.start; variant = n.variant; has_content = n.has_content }

module _ {I : Type 0} where
  -- the same of an access to a variant, which no call has failed
  abbrev pub enum_state_of : EnumAccess I → EnumAccessState
  enum_state_of a = named_state_of (record a.de.now { failed = false }) a.name

  -- the reader that the access borrows, and its present state
  abbrev pub reader_of : EnumAccess I → MutBor State
  reader_of a = a.de

  abbrev pub reader_of_enum : EnumAccess I → State
  reader_of_enum a = a.de.now

  abbrev pub HoldsEnum : MutBor State → EnumAccess I → Type 0
  HoldsEnum reader a = a.de.ghost_name ≡ reader.ghost_name

  abbrev pub BlocksEnumReader : EnumAccess I → Type 0
  BlocksEnumReader a = a.de.now.failed ≡ true

-- the reader that is lent to a key; the key is in front of it
abbrev pub reader_of_key : {I : Type 0} → MapKey I → State
reader_of_key key = key.de.now

-- it still holds the same one
abbrev pub HoldsTheSameKey : {I : Type 0} → MapKey I → MapKey I → Type 0
HoldsTheSameKey old new = new.de.ghost_name ≡ old.de.ghost_name

-- a call reads the key that waits, and the reader stays lent to it
pub record KeyReadsBy {I V C : Type 0} (content : V → C) (convert : KeyConversion C) (refuses : State → Error → State → Type 0) (old new : MapKey I) (result : Result V Error) : Type 0 where
  pub reads : ReadsOneKey content convert refuses (reader_of_key old) (reader_of_key new) result
  pub same_reference : HoldsTheSameKey old new

-- the same of a kind of keys
abbrev pub KeyReads : {I V C : Type 0} → KeyKind C → (V → C) → MapKey I → MapKey I → Result V Error → Type 0
KeyReads kind content old new result = KeyReadsBy content kind.convert (RefusedAsKey kind) old new result

-- null, bytes, or a string, which is borrowed if it is escape-free
abbrev pub ReadsNullKey : {I : Type 0} → MapKey I → MapKey I → Result (Unit {0}) Error → Type 0
ReadsNullKey old new result = KeyReads (document_key null_kind) (λ _. tt) old new result

abbrev pub ReadsBytesKey : {I : Type 0} → MapKey I → MapKey I → Result ByteBuf Error → Type 0
ReadsBytesKey old new result = KeyReads bytes_key bytes_of old new result

abbrev pub ReadsCowKey : {I : Type 0} → MapKey I → MapKey I → Result CowStr Error → Type 0
ReadsCowKey old new result = KeyReads cow_key (λ t. (cow_bytes t, is_borrowed t)) old new result

-- an array is opened by an access that holds this reader, and whose end closes no brace; the same of an object
abbrev pub OpensSeqAccess : {I : Type 0} → MutBor State → State → Result (SeqAccess I) Error → Type 0
OpensSeqAccess reader old result = OpensArray (HoldsBlocked reader None) state_of old result

abbrev pub OpensMapAccess : {I : Type 0} → MutBor State → State → Result (MapAccess I) Error → Type 0
OpensMapAccess reader old result = OpensMap (HoldsMapBlocked reader None) map_state_of old result

-- a call of the access keeps its reference, blocks the reader, and leaves the bracket and the input as they were
pub record KeepsAccess {I : Type 0} (old new : SeqAccess I) : Type 0 where
  pub same_reference : HoldsTheSame old new
  pub blocks : new.de.now.failed ≡ true
  pub start : (state_of new).start ≡ (state_of old).start
  pub same_text : SameText (state_of old).reader (state_of new).reader

pub record KeepsMap {I : Type 0} (old new : MapAccess I) : Type 0 where
  pub same_reference : HoldsTheSameMap old new
  pub blocks : new.de.now.failed ≡ true
  pub start : (map_state_of new).at.start ≡ (map_state_of old).at.start
  pub same_text : SameText (map_state_of old).at.reader (map_state_of new).at.reader

-- the access refuses a member by a custom fault of the place; after a refusal it answers `Failed` at the opening brace
pub record RefusesWithOwn {I : Type 0} (place : AccessState) (old : MapAccess I) (e : Error) (new : MapAccess I) : Type 0 where
  pub access : KeepsMap old new
  pub pending : KeepsPending (map_state_of old) (map_state_of new)
  pub failed : (map_state_of new).at.reader.failed ≡ true
  pub own : (map_state_of old).at.reader.failed ≡ false → IsOwnAtBracket place e
  pub unprompted : (map_state_of old).at.reader.failed ≡ false → IsUnprompted e
  pub before : (map_state_of old).at.reader.failed ≡ true → IsFailedAtBracket (map_state_of old).at e

-- the next element is read, or None is returned if the bracket is next
pub record ReadsNext {I V C : Type 0} (content : V → C) (convert : Tree → Option C) (refuses : State → Error → State → Type 0) (old new : SeqAccess I) (result : Result (Option V) Error) : Type 0 where
  pub access : KeepsAccess old new
  pub sound : IfOk result (GivesElement content convert (state_of old) (state_of new))
  pub complete : ReadsElement content convert (state_of old) result
  pub closing : CompletesClose square (state_of old) result
  pub shorter : IfOk result (λ o. IfSome o (λ v. length (state_of new).reader.unread < length (state_of old).reader.unread))
  pub refused : RefusesNext refuses (state_of old) (state_of new).reader result
  pub read : IfOk result (ReadsMore content convert (state_of old) (state_of new))
  pub left : (ts : Trees) (r : List ℕ) → ElementsLeft ts r (state_of old) → LeavesFewer content convert ts r (state_of new) result

-- the next key is read, and begins where the access then says, or None is returned if the brace is next
pub record ReadsNextKey {I K C : Type 0} (content : K → C) (convert : KeyConversion C) (refuses : State → Error → State → Type 0) (old new : MapAccess I) (result : Result (Option K) Error) : Type 0 where
  pub access : KeepsMap old new
  pub pending : SetsPending is_some (map_state_of old) (map_state_of new) result
  pub sound : IfOk result (GivesMemberKey content convert (map_state_of old) (map_state_of new))
  pub complete : ReadsMemberKey content convert (map_state_of old) result
  pub closing : CompletesClose curly (map_state_of old).at result
  pub shorter : IfOk result (λ o. IfSome o (λ k. length (map_state_of new).at.reader.unread < length (map_state_of old).at.reader.unread))
  pub refused : RefusesNextKey refuses (map_state_of old) (map_state_of new).at.reader result
  pub begins : ReadKeyBegins content convert new.key_start new.de.now.input new.de.now.unread result
  pub read : IfOk result (ReadsAKey content convert (map_state_of old) (map_state_of new))
  pub left : (ps : Members) (r : List ℕ) → MembersLeft ps r (map_state_of old) → LeavesAValue content convert ps r (map_state_of new) result

-- the value of the key that was read last
pub record ReadsNextValue {I V C : Type 0} (content : V → C) (convert : Tree → Option C) (refuses : State → Error → State → Type 0) (old new : MapAccess I) (result : Result V Error) : Type 0 where
  pub access : KeepsMap old new
  pub pending : TakesPendingKey old new result
  pub sound : IfOk result (GivesMemberValue content convert (map_state_of old) (map_state_of new))
  pub complete : ReadsMemberValue content convert (map_state_of old) result
  pub shorter : IfOk result (λ v. length (map_state_of new).at.reader.unread < length (map_state_of old).at.reader.unread)
  pub refused : RefusesNextValue refuses (map_state_of old) (map_state_of new).at.reader result
  pub read : IfOk result (ReadsAMember content convert (map_state_of old) (map_state_of new))
  pub left : LeavesOthers content convert (map_state_of old) (map_state_of new) result

module _ (I : RattleType) (g : input.Ghosts I.Denot) where
  -- the reader ends as the access leaves it, and after a refusal it has given up
  abbrev pub lends_reader : {E : Type 0} → MutBor State → Result (SeqAccess I.Denot) E → Fml
  lends_reader reader result = RestsIfErr (the_row I g) reader (λ s. s.de.ghost_name) result (λ n. GivesUp reader.now n)

  abbrev pub lends_to_map : {E : Type 0} → MutBor State → Result (MapAccess I.Denot) E → Fml
  lends_to_map reader result = RestsIfErr (the_row I g) reader (λ m. m.de.ghost_name) result (λ n. GivesUp reader.now n)

  abbrev pub lends_to_enum : {E : Type 0} → MutBor State → Result (EnumAccess I.Denot) E → Fml
  lends_to_enum reader result = RestsIfErr (the_row I g) reader (λ a. a.de.ghost_name) result (λ n. GivesUp reader.now n)
