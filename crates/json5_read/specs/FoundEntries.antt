-- Where the next entry of brackets begins, or the colon of a member, after blanks.
-- A promise rests on this.
use Rattle.std.specs.Prelude.{Bool, not, Result, IfOk, IfErr, OnErr}
use Rattle.json5_grammar.specs.Language.Characters.{colon_sign}
use Rattle.json5_grammar.specs.Model.Collections.{IsSign}
use Rattle.json5_types.specs.declared.error.Error.{Error}
use Rattle.json5_tokens.specs.Cursor.{Cursor, Refused}
use Rattle.json5_tokens.specs.ShortWays.{Stepped}
use Rattle.json5_read.specs.declared.brackets.BracketPair.{BracketPair}
use Rattle.json5_read.specs.EntryFaults.{FaultRelation, AfterBlanks, NoNext, NoColon}
use Rattle.json5_read.specs.ModelSteps.{SameText}

-- it is found after blanks, or refused there
pub record FindsAfterBlanks {A : Type 0} (IsFound : A → Type 0) (IsFault : FaultRelation) (old new : Cursor) (result : Result A Error) : Type 0 where
  pub found : IfOk result IsFound
  pub refused : IfErr result (Refused (AfterBlanks IsFault) old)
  pub same_text : OnErr result (SameText old new)

-- true where an entry may begin, after the comma that is due, and false where the closing bracket is next
abbrev pub FindsEntry : BracketPair → Bool → Cursor → Cursor → Result Bool Error → Type 0
FindsEntry b comma_due old new result = FindsAfterBlanks (λ more. Stepped b.closing comma_due (not more) old new) (NoNext b comma_due) old new result

-- the colon is taken
abbrev pub FindsColon : Cursor → Cursor → Result (Unit {0}) Error → Type 0
FindsColon old new result = FindsAfterBlanks (λ u. IsSign colon_sign old.unread new.unread × SameText old new) NoColon old new result
