-- Steps that keep what they read.
use Rattle.std.proofs.Common.{◌≡◌, ℕ, List}
use Rattle.std.specs.Prelude.{Ok, Err}
use Rattle.json5_grammar.specs.Model.Reading.{Read, got}
use Rattle.json5_types.specs.declared.error.Error.{Error}
use Rattle.json5_tokens.specs.Cursor.{Cursor, Took}
use Rattle.json5_read.specs.OwnedReads.{BlamesOrMemory, Keeps}
use Rattle.json5_read.specs.ModelSteps.{SameText, Gave}

pub takes : {V A : Type 0} {Is : V → A → Type 0} (old new : Cursor) (m : Read A) (a : A) (v : V) → Is v a → Gave m a old new → Keeps Is m old new (Ok v)
takes old new m a v is g = record { given = (a, is, g); refused = tt; same_text = tt }

pub not_taken : {V A : Type 0} {Is : V → A → Type 0} (old new : Cursor) (m : Read A) (e : Error) → BlamesOrMemory old.input m e → SameText old new → Keeps Is m old new (Err e)
not_taken old new m e b g = record { given = tt; refused = b; same_text = g }

pub gave_text : {A : Type 0} (old new : Cursor) (m : Read A) (a : A) (s : List ℕ) → m ≡ got a new.unread → Took old s new → Gave m a old new
gave_text old new m a s e t = record { reads = e; taken = s; took = t }
