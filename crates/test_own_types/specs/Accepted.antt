-- What is read as the types of this crate.
-- A promise rests on this.
use Rattle.std.specs.Prelude.{◌==◌, ◌^◌, ℕ, Bool, if◌then◌else◌, nat_lt, length, List, [], ◌∷◌, Option, Some, None, Result, codes, string_bytes}
use Rattle.json5.specs.Trees.{Tree, Trees}
use Rattle.json5.specs.Collections.{contents}
use Rattle.json5.specs.Convert.{index_of, unsigned_below}
use Rattle.json5.specs.ConvertLists.{if_some}
use Rattle.json5.specs.Error.{Error}
use Rattle.json5.specs.Layouts.{Layout}
use Rattle.json5.specs.Refinement.{ReadsExactly, if_more, refined}
use Rattle.json5.specs.State.{State}
use Rattle.json5.specs.StructFaults.{ValueFaults}
use Rattle.json5.specs.Structs.{RefusesOnly, struct_only}
use Rattle.json5.specs.TokenKinds.{no_tree}
use Rattle.json5.specs.VariantContents.{Either, first, later}
use Rattle.test_own_types.specs.declared.colors.Color.{Color}
use Rattle.test_own_types.specs.declared.colors.Color.TheVariants.{Red, Green, Blue}
use Rattle.test_own_types.specs.declared.reminders.Reminder.{Reminder}
use Rattle.test_own_types.specs.declared.reminders.Reminder.TheVariants.{Off, Daily, Weekly, Once}
use Rattle.test_own_types.specs.declared.settings.Settings.{Settings}

-- a number above 0
abbrev pub above_zero : ℕ → Option ℕ
above_zero n = if n == 0 then None else Some n

-- a port that isn't 0
abbrev pub port_of : Tree → Option ℕ
port_of = refined (unsigned_below (2 ^ 16)) above_zero

-- these, where they are at most so many
abbrev pub if_at_most : {C : Type 0} → ℕ → List C → Option (List C)
if_at_most n cs = if nat_lt n (length cs) then None else Some cs

-- elements that convert, at most so many
abbrev pub at_most : {C : Type 0} → ℕ → (Tree → Option C) → Trees → Option (List C)
at_most n f ts = if_more (if_at_most n) (contents f ts)

-- an object of these fields alone is read from the front; it may take memory
abbrev pub ReadsKnown : {S D V : Type 0} → (V → D) → Layout S D → ValueFaults → State → State → Result V Error → Type 0
ReadsKnown content l faults = ReadsExactly content (struct_only l) no_tree (RefusesOnly l faults)

abbrev pub settings_content : Settings → List ℕ × (ℕ × Option (List ℕ))
settings_content s = (string_bytes s.host, (s.port.number, if_some string_bytes s.label))

abbrev pub color_names : List (List ℕ)
color_names = codes "red" ∷ codes "green" ∷ codes "blue" ∷ []

abbrev pub colors : List Color
colors = Red ∷ Green ∷ Blue ∷ []

-- the color whose name has this index
abbrev pub color_at : ℕ → Option Color
color_at k = Some (if k == 0 then Red else if k == 1 then Green else Blue)

-- the color whose name this key is
abbrev pub color_named : List ℕ → Bool → Option Color
color_named u escape_free = if_more color_at (index_of color_names u escape_free)

abbrev pub reminder_names : List (List ℕ)
reminder_names = codes "off" ∷ codes "daily" ∷ codes "weekly" ∷ codes "once" ∷ []

abbrev pub reminder_content : Reminder → Either (Unit {0}) (Either ℕ (Either (ℕ × ℕ) (List ℕ × ℕ)))
reminder_content Off = first tt
reminder_content (Daily hour) = later (first hour)
reminder_content (Weekly day hour) = later (later (first (day, hour)))
reminder_content (Once moment) = later (later (later (string_bytes moment.day, moment.hour)))
