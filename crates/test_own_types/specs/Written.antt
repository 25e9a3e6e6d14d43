-- What is written of the types of this crate.
-- A promise rests on this.
use Rattle.std.specs.Prelude.{◌≡◌, ℕ, List, codes, string_bytes}
use Rattle.std.specs.Str.{chars}
use Rattle.json5.specs.WrittenFields.{field_named, field_given}
use Rattle.json5.specs.WrittenTrees.{Written, WrittenKey, object, no_field, array, element, no_element, text, natural, named, newtype_variant}
use Rattle.test_own_types.specs.declared.colors.Color.{Color}
use Rattle.test_own_types.specs.declared.colors.Color.TheVariants.{Red, Green, Blue}
use Rattle.test_own_types.specs.declared.reminders.Moment.{Moment}
use Rattle.test_own_types.specs.declared.reminders.Reminder.{Reminder}
use Rattle.test_own_types.specs.declared.reminders.Reminder.TheVariants.{Off, Daily, Weekly, Once}
use Rattle.test_own_types.specs.declared.settings.Settings.{Settings}
use Rattle.test_own_types.specs.declared.sizes.Size.{Size}

-- a label that is missing is left out
abbrev pub settings_tree : Settings → Written
settings_tree s = object
    (field_named (codes "host") (text (chars (string_bytes s.host)))
    (field_named (codes "port") (natural s.port.number)
    (field_given (λ l. text (chars (string_bytes l))) (codes "label") s.label no_field)))

abbrev pub size_tree : ℕ → ℕ → Written
size_tree width height = object (field_named (codes "width") (natural width) (field_named (codes "height") (natural height) no_field))

-- a size of this width and this height
abbrev pub IsSize : ℕ → ℕ → Size → Type 0
IsSize width height s = ◌≡◌ {A = ℕ × ℕ} (s.width, s.height) (width, height)

abbrev pub name_of : Color → List ℕ
name_of Red = codes "red"
name_of Green = codes "green"
name_of Blue = codes "blue"

abbrev pub color_tree : Color → Written
color_tree c = text (chars (name_of c))

abbrev pub color_key : Color → WrittenKey
color_key c = named (chars (name_of c))

abbrev pub moment_tree : Moment → Written
moment_tree m = object (field_named (codes "day") (text (chars (string_bytes m.day))) (field_named (codes "hour") (natural m.hour) no_field))

abbrev pub reminder_tree : Reminder → Written
reminder_tree Off = text (chars (codes "off"))
reminder_tree (Daily hour) = newtype_variant (chars (codes "daily")) (natural hour)
reminder_tree (Weekly day hour) = newtype_variant (chars (codes "weekly")) (array (element (natural day) (element (natural hour) no_element)))
reminder_tree (Once moment) = newtype_variant (chars (codes "once")) (moment_tree moment)
