-- What a value becomes when it is changed.
-- A promise rests on this.
use Rattle.std.specs.Prelude.{◌≡◌, ℕ, Bool, if◌then◌else◌, not, ◌||◌, nat_eq, List, Option, Some, None, is_some, Result, Ok, Err}
use Rattle.std.specs.Cmp.Lexicographic.{pointwise}
use Rattle.json5_grammar.specs.declared.error_code.ErrorCode.{ErrorCode}
use Rattle.json5_grammar.specs.declared.error_code.ErrorCode.TheVariants.{OutOfMemory}
use Rattle.json5_types.specs.declared.error.Error.{Error}
use Rattle.json5_types.specs.Errors.{code, SaysAt}
use Rattle.json5_types.specs.ValueLookups.{last_named}
use Rattle.json5_types.specs.ValueMeanings.{Datum, null, array, object, Items, no_item, item, Fields, no_field, field}

-- ---- elements and members

-- the elements, and this one after them
abbrev pub items_then : Items → Datum → Items
items_then no_item y = item y no_item
items_then (item x xs) y = item x (items_then xs y)

abbrev pub has_key : List ℕ → Fields → Bool
has_key key fs = is_some (last_named key fs)

-- the members with this value in place of that of the last with this key; after them all if there is none
abbrev pub put_named : List ℕ → Datum → Fields → Fields
put_named key y no_field = field key y no_field
put_named key y (field u x fs) = if has_key key fs || not (pointwise nat_eq u key) then field u x (put_named key y fs) else field key y fs

-- the members with other keys
abbrev pub without_named : List ℕ → Fields → Fields
without_named key no_field = no_field
without_named key (field u x fs) = if pointwise nat_eq u key then without_named key fs else field u x (without_named key fs)

-- ---- values; None of one that can't be changed so

abbrev pub pushed : Datum → Datum → Option Datum
pushed y (array xs) = Some (array (items_then xs y))
pushed y _ = None

abbrev pub inserted : List ℕ → Datum → Datum → Option Datum
inserted key y (object fs) = Some (object (put_named key y fs))
inserted key y _ = None

abbrev pub removed : List ℕ → Datum → Datum
removed key (object fs) = object (without_named key fs)
removed key x = x

-- It is changed so, or refused: with this code if it can't be changed so, else for want of memory. What is refused stays as it was.
abbrev pub Changes : {A : Type 0} → (Datum → Option Datum) → ErrorCode → Datum → Result A Error → Datum → Type 0
Changes change kind old (Ok r) new = change old ≡ Some new
Changes change kind old (Err e) new = (new ≡ old) × SaysAt (code (if is_some (change old) then OutOfMemory else kind)) None e

-- ---- merging

abbrev pub or_null : Option Datum → Datum
or_null None = null
or_null (Some x) = x

-- Of two objects the second's members are put into the first, and where both have a key its values are merged; of equal keys of the
-- second the last counts. Anything else is replaced.
abbrev mutual
  pub merged : Datum → Datum → Datum
  merged (object fs) (object gs) = object (fields_merged fs gs)
  merged x y = y

  pub fields_merged : Fields → Fields → Fields
  fields_merged fs no_field = fs
  fields_merged fs (field u y gs) = if has_key u gs then fields_merged fs gs else fields_merged (put_named u (merged (or_null (last_named u fs)) y) fs) gs
