-- What the program reads, and what it writes of it.
-- A promise rests on this.
use Rattle.std.specs.declared.alloc.Global.{Global}
use Rattle.std.specs.Prelude.{◌≡◌, ◌⊎◌, ℕ, List, Option, IfSome, String, string_bytes}
use Rattle.std.specs.Str.{chars, IsUtf8}
use Rattle.std.specs.Io.KnownBytes.{Appends, Keeps}
use lib.Chars.{codes}
use Rattle.json5_lexemes.specs.Plain.{KeepsPlain}
use Rattle.json5_write.specs.Pieces.{AppendsFront}
use Rattle.cli_files.specs.declared.failure.Failure.TheVariants as failure
use Rattle.json5_tidy.specs.declared.style.LastCommas.TheVariants as commas
use Rattle.json5_tidy.specs.declared.style.LastCommas.{LastCommas}
use Rattle.json5_tidy.specs.declared.style.Stars.{Stars}
use Rattle.json5_tidy.specs.Styles.{may_move}
use Rattle.json5_tidy.specs.Tidied as tidied
use Rattle.cli_tidy.specs.declared.tidied.Tidied.{Tidied}
use Rattle.cli_tidy.specs.declared.trouble.FileTrouble.{FileTrouble}
use Rattle.cli_tidy.specs.declared.trouble.FileTrouble.TheVariants as trouble
use Rattle.cli_files.specs.Folders.{HasEnding}
use Rattle.cli_tidy.specs.Refusals.{IsTroubleOf}

-- last commas come into a file with this name whatever it holds: they are asked for, or it ends in .json5 and nothing is asked
abbrev pub GetsCommas : (name : List ℕ) → LastCommas → Type 0
GetsCommas name asked = (asked ≡ commas.Always) ⊎ ((asked ≡ commas.Auto) × HasEnding (codes "json5") name)

-- the bytes are a document in UTF-8, and after tidying under this name they are these; JSON stays JSON unless last commas
-- come, and each comment stays to the letter if star comments are kept so
abbrev pub Tidies : Stars → LastCommas → (name : List ℕ) → List ℕ → List ℕ → Type 0
Tidies stars asked name before after = IsUtf8 before × tidied.Keeps (may_move stars) (chars before) (chars after) × (¬ (GetsCommas name asked) → KeepsPlain before after)

-- the text is all that was read
abbrev pub HoldsText : Option (List ℕ) → String Global → Type 0
HoldsText input text = IfSome input (λ known. string_bytes text ≡ known)

-- all that was read is a document, and the text that was kept of it is the same tidied
pub record HoldsTidied (stars : Stars) (asked : LastCommas) (name : List ℕ) (input : Option (List ℕ)) (t : Tidied) : Type 0 where
  pub all : HoldsText input t.before
  pub tidies : Tidies stars asked name (string_bytes t.before) (string_bytes t.after)

-- the bytes are a document, and it was written tidied
abbrev pub WritesTidied : Stars → LastCommas → (name : List ℕ) → Option (List ℕ) → Option (List ℕ) → List ℕ → Type 0
WritesTidied stars asked name old new bytes = (after : List ℕ) × Tidies stars asked name bytes after × Appends old new after

-- the bytes are a document, and a prefix of it tidied was written
abbrev pub BeginsTidied : Stars → LastCommas → (name : List ℕ) → Option (List ℕ) → Option (List ℕ) → List ℕ → Type 0
BeginsTidied stars asked name old new bytes = (after : List ℕ) × Tidies stars asked name bytes after × AppendsFront old new after

-- why tidying a stream with this name ended early; nothing was written unless a write failed
abbrev pub TidyTrouble : Stars → LastCommas → (name : List ℕ) (input old new : Option (List ℕ)) → FileTrouble → Type 0
TidyTrouble stars asked name input old new (trouble.Failed failure.Write) = IfSome input (BeginsTidied stars asked name old new)
TidyTrouble stars asked name input old new e = IsTroubleOf name input e × Keeps old new
