-- Why a map is refused.
-- A promise rests on this.
use Rattle.std.specs.Prelude.{◌≡◌, ℕ, Bool, true, false, List, ◌∷◌, ◌++◌, length, Option, Some, None}
use Rattle.std.specs.Str.{encode_utf8_all}
use Rattle.json5_grammar.specs.declared.error_code.ErrorCode.TheVariants as codes
use Rattle.json5_grammar.specs.Language.Characters.{left_brace}
use Rattle.json5_grammar.specs.Language.Trees.{Tree, Members}
use Rattle.json5_grammar.specs.Model.Collections.{pair_contents}
use Rattle.json5_types.specs.declared.error.Error.{Error}
use Rattle.json5_types.specs.Errors.{LacksMemory}
use Rattle.json5_de.specs.State.{State}
use Rattle.json5_read.specs.Brackets.{curly}
use Rattle.json5_de.specs.Faults.{RefusedBy, IsPositionless}
use Rattle.json5_de.specs.Arrays.{Opened, NotOpened}
use Rattle.json5_de.specs.Keys.{KeyConversion}
use Rattle.json5_de.specs.Objects.{MapAccessState, MembersRead}
use Rattle.json5_de.specs.ObjectFaults.{KeyRefusedAtBrace, ValueRefusedAtBrace}

-- how keys and values are read: what they convert to, and how their types refuse
pub record Sides (C D : Type 0) : Type 1 where
  pub keys : KeyConversion C
  pub values : Tree → Option D
  pub refuses_key : State → Error → State → Type 0
  pub refuses_value : State → Error → State → Type 0

abbrev pub sides : {C D : Type 0} → KeyConversion C → (Tree → Option D) → (State → Error → State → Type 0) → (State → Error → State → Type 0) → Sides C D
sides keys values refuses_key refuses_value = record { keys = keys; values = values; refuses_key = refuses_key; refuses_value = refuses_value }

-- the object was opened, and members of it were read, each of which converts, and perhaps a key after them
pub record WithinMap {C D : Type 0} (keys : KeyConversion C) (values : Tree → Option D) (old : State) (key : Option (List ℕ × Bool)) (now : MapAccessState) : Type 0 where
  pub first : State
  pub opened : Opened curly old first
  pub start : (before : List ℕ) → old.input ≡ before ++ left_brace ∷ first.unread → now.at.start ≡ length (encode_utf8_all before)
  pub pairs : Members
  pub contents : List (C × D)
  pub are : pair_contents keys values pairs ≡ Some contents
  pub read : MembersRead old pairs key now

-- its opening brace, the first key or value at fault, or memory that ran out; the key before that value converts
pub data MapFault {C D : Type 0} (sides : Sides C D) (old : State) (e : Error) : Type 0 where
  not_opened : RefusedBy (NotOpened curly old.level) old e → MapFault sides old e
  at_key : (now : MapAccessState) → WithinMap sides.keys sides.values old None now → KeyRefusedAtBrace sides.refuses_key now e → MapFault sides old e
  at_value : (now : MapAccessState) (u : List ℕ) (escape_free : Bool) (c : C) → sides.keys u escape_free ≡ Some c → WithinMap sides.keys sides.values old (Some (u, escape_free)) now → ValueRefusedAtBrace sides.refuses_value now e → MapFault sides old e
  no_memory : LacksMemory e → MapFault sides old e

-- how a map is refused: after it the reader has failed for good
pub record RefusesMap {C D : Type 0} (sides : Sides C D) (old : State) (e : Error) (new : State) : Type 0 where
  pub cause : old.failed ≡ false → MapFault sides old e
  pub failed : new.failed ≡ true
  pub before : old.failed ≡ true → IsPositionless codes.Failed e
