-- A value that is changed as another was.
-- A promise rests on this.
use Rattle.std.specs.Prelude.{◌≡◌, ◌⊎◌, ◌==◌, ◌&&◌, ℕ, suc, Bool, true, false, if◌then◌else◌, List, Option, Some, None, is_some, option_map}
use Rattle.std.proofs.Common.{Bor}
use Rattle.json5_grammar.specs.Language.Documents.{Doc, max_depth}
use Rattle.json5_grammar.specs.Language.Trees.{Tree}
use Rattle.json5_grammar.specs.declared.error_code.ErrorCode.TheVariants as codes
use Rattle.json5_types.specs.declared.error.Error.{Error}
use Rattle.json5_types.specs.declared.value.Value.{Value}
use Rattle.json5_types.specs.Errors.{code, SaysAt}
use Rattle.json5_types.specs.ValueChanges.{has_key, inserted, removed}
use Rattle.json5_types.specs.ValueEquality.{datum_eq}
use Rattle.json5_types.specs.ValueKinds.{items_len}
use Rattle.json5_types.specs.ValueLookups.{fits, item_at, named_of}
use Rattle.json5_types.specs.ValueMeanings.{value_of, Datum, array, object, Items, no_item, item, Fields, no_field, field}
use Rattle.json5_tokens.specs.Cursor.{IsOutOfMemory}
use Rattle.json5_read.specs.DocumentReads.{IsRefused}
use Rattle.json5_settings.specs.Stacks.{Means}

-- there was this value before
abbrev pub was : Option Datum → Datum → Bool
was None y = false
was (Some x) y = datum_eq x y

-- the changed value; the old one, where it can't be changed
abbrev pub or_unchanged : Option Datum → Datum → Datum
or_unchanged (Some y) x = y
or_unchanged None x = x

-- an object with this member, in place of the last with its key or behind the others
abbrev pub with_member : List ℕ → Datum → Datum → Datum
with_member u y x = or_unchanged (inserted u y x) x

-- without the members with this key, if the first has none
abbrev pub unless_named : (key : List ℕ) → (new before : Datum) → Datum
unless_named u n b = if is_some (named_of u n) then b else removed u b

-- so for the keys of all these members
abbrev pub without_gone : (old : Fields) → (new before : Datum) → Datum
without_gone no_field n b = b
without_gone (field u x os) n b = without_gone os n (unless_named u n b)

-- three arrays have one length
abbrev pub are_as_many : (old new before : Items) → Bool
are_as_many os ns bs = (items_len os == items_len ns) && (items_len ns == items_len bs)

-- what a lent value means, if there is one
abbrev pub value_in : Option (Bor Value) → Option Datum
value_in o = option_map (λ v. value_of v.now) o

abbrev mutual
  -- where `new` is as `old` was, it is what was there before; in objects so for each member, and a member goes that `new`
  -- lacks and `old` had; in arrays of one length so for each element; else it is `new`
  pub followed : (old : Option Datum) → (new : Datum) → (before : Option Datum) → Datum
  followed (Some (object os)) (object ns) (Some (object bs)) = if datum_eq (object os) (object ns) then object bs else without_gone os (object ns) (members_followed (object os) ns (object bs))
  followed (Some (array os)) (array ns) (Some (array bs)) = if datum_eq (array os) (array ns) then array bs else if are_as_many os ns bs then array (elements_followed 0 os ns bs) else array ns
  followed (Some o) n (Some b) = if datum_eq o n then b else n
  followed _ n _ = n

  -- each of these elements of `new` so, before which there are so many others
  pub elements_followed : (count : ℕ) → (old new before : Items) → Items
  elements_followed i os no_item bs = no_item
  elements_followed i os (item y ns) bs = item (followed (item_at i os) y (item_at i bs)) (elements_followed (suc i) os ns bs)

  -- each of these members of `new` so; of equal keys the last counts
  pub members_followed : (old : Datum) → (new : Fields) → (before : Datum) → Datum
  members_followed o no_field b = b
  members_followed o (field u y ns) b = members_followed o ns (if has_key u ns then b else if was (named_of u o) y then b else with_member u (followed (named_of u o) y (named_of u b)) b)

-- one member so
abbrev pub member_followed : (key : List ℕ) → (old new before : Datum) → Datum
member_followed u o y b = if was (named_of u o) y then b else with_member u (followed (named_of u o) y (named_of u b)) b

-- both are documents, and what the second means is what the first does, changed as `old` became `new`
abbrev pub Updates : (old new : Datum) → (text made : List ℕ) → Type 0
Updates o n text made = (b : Datum) × Means text b × Means made (followed (Some o) n (Some b))

-- why nothing is made: memory ran out, or the text is no document, or the new value is nested too deep
pub record RefusesUpdate (n : Datum) (text : List ℕ) (e : Error) : Type 0 where
  pub cause : IsOutOfMemory e ⊎ (IsRefused text e ⊎ ((fits n ≡ false) × SaysAt (code codes.TooDeep) None e))
  pub complete : (t : Tree) → Doc max_depth text t → fits n ≡ true → IsOutOfMemory e
