-- Which structs of a description are read without memory.
-- A promise rests on this.
use Rattle.std.specs.Prelude.{◌≡◌, ◌&&◌, Bool, true, false, Option, Some, None, Result, IsOk}
use Rattle.json5_grammar.specs.Language.Trees.{Tree}
use Rattle.json5_types.specs.declared.error.Error.{Error}
use Rattle.json5_de.specs.Objects.{MapAccessState}
use Rattle.json5_de.specs.Plans.{object_free}
use Rattle.json5_fields.specs.Layouts.{Layout}

-- the values that the fields read without memory, or don't take at all; and whether the defaults take none
pub record Spares : Type 0 where
  pub values : Tree → Bool
  pub defaults : Bool

abbrev pub free_if_read : {C : Type 0} → Option C → Bool → Bool
free_if_read None free = true
free_if_read (Some c) free = free

-- what a type reads without memory, or doesn't read
abbrev pub spared : {C : Type 0} → (Tree → Option C) → (Tree → Bool) → Tree → Bool
spared convert allocation_free t = free_if_read (convert t) (allocation_free t)

-- a field of a type
abbrev pub spares_field : {C : Type 0} → (Tree → Option C) → (Tree → Bool) → Spares
spares_field convert allocation_free = record { values = spared convert allocation_free; defaults = true }

-- one whose default is made
abbrev pub spares_made : {C : Type 0} → (Tree → Option C) → (Tree → Bool) → Spares
spares_made convert allocation_free = record { values = spared convert allocation_free; defaults = false }

-- fields, and others
abbrev pub spares_both : Spares → Spares → Spares
spares_both a b = record { values = λ t. a.values t && b.values t; defaults = a.defaults && b.defaults }

-- an object whose keys have no escape, and whose values all fields spare
abbrev pub struct_free : Spares → Tree → Bool
struct_free spares t = spares.defaults && object_free spares.values t

-- what was read makes a struct, and the defaults take no memory
abbrev pub FinishesFree : {S D V : Type 0} → Bool → Layout S D → S → MapAccessState → Result V Error → Type 0
FinishesFree {D = D} defaults l s old result = (d : D) → defaults ≡ true → old.at.reader.failed ≡ false → l.build s ≡ Some d → IsOk result
