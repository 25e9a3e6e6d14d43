-- An element that has to be there.
use Rattle.std.proofs.Common.{◌≡◌, ◌∙◌, Option, None, List, ℕ, Ok, Err}
use Rattle.json5_types.specs.declared.error.Error.{Error}
use Rattle.json5_de.specs.State.{SameText}
use Rattle.json5_de.specs.Arrays.{AccessState, IsAtBracket}
use Rattle.json5_grammar.specs.Language.Trees.{Tree, Trees, no_more, more}
use Rattle.json5_de.specs.Arrays.{LeavesFewer}
use Rattle.json5_de.specs.ListFaults.{IsTooShort, LeavesRequired}

-- the bracket stays where it was
pub bracket_before : (old new : AccessState) (e : Error) → new.start ≡ old.start → SameText old.reader new.reader → IsAtBracket new e → IsAtBracket old e
bracket_before old new e start same at before b = at before (record { rest = b.rest; split = same ∙ b.split; counted = start ∙ b.counted })

pub short_before : (old new : AccessState) (e : Error) → new.start ≡ old.start → SameText old.reader new.reader → IsTooShort new e → IsTooShort old e
short_before old new e start same (says, at) = (says, bracket_before old new e start same at)

-- what a refused call for an element leaves
pub left_refused : {V C : Type 0} (content : V → C) (convert : Tree → Option C) (ts : Trees) (r : List ℕ) (new : AccessState) (e : Error) → LeavesFewer content convert ts r new (Err e) → LeavesRequired content convert ts r new (Err e)
left_refused content convert no_more r new e fewer = tt
left_refused content convert (more t ts) r new e fewer = fewer

-- if None was returned, no element was left
pub left_missing : {V C : Type 0} (content : V → C) (convert : Tree → Option C) (ts : Trees) (r : List ℕ) (new : AccessState) (e : Error) → LeavesFewer content convert ts r new (Ok None) → LeavesRequired content convert ts r new (Err e)
left_missing content convert no_more r new e fewer = tt
left_missing content convert (more t ts) r new e fewer = absurd fewer
