-- What a merge patch (RFC 7396) makes of a tree.
-- A promise rests on this.
use denote.Ref.{Bor}
use Rattle.std.specs.Prelude.{◌≡◌, ◌≢◌, ℕ, List, [], ◌∷◌}
use Rattle.std.specs.Str.{encode_utf8_all}
use Rattle.json5_grammar.specs.Language.Trees.{Tree, null, boolean, number, text, array, object, no_member}
use Rattle.json5_types.specs.ValueMeanings as patch
use Rattle.json5_types.specs.ValueMeanings.{Datum, Fields, no_field, field}
use Rattle.json5_write.specs.EscapeFreeMarks.{unmarked}
use Rattle.json5_write.specs.ValueTrees.{datum_tree}
use Rattle.json5_edit.specs.Comparing.{IsWithout}
use Rattle.json5_edit.specs.Refusals.{HasKey}
use Rattle.json5_edit.specs.declared.paths.Step.TheVariants as step
use Rattle.json5_edit_values.specs.Locations.{ChangesAt}
use Rattle.json5_edit_values.specs.Patches.{Joins}

-- an object as it is, and an empty one in the place of anything else
abbrev pub object_or_empty : Tree → Tree
object_or_empty (object ps) = object ps
object_or_empty null = object no_member
object_or_empty (boolean b) = object no_member
object_or_empty (number n) = object no_member
object_or_empty (text u escape_free) = object no_member
object_or_empty (array ts) = object no_member

-- a member of the patch with this key and the value p, which is merged so into another value, makes u of the object t: null
-- takes the member out, if it is there; any other value is merged into the member's value, and into null where there is
-- no such member, which then is one member more
pub data MergesMember (Merge : Tree → Tree → Type 0) (key : List ℕ) (p : Datum) (t u : Tree) : Type 0 where
  stays_out : p ≡ patch.null → (HasKey key t → ⊥) → u ≡ t → MergesMember Merge key p t u
  goes_out : (k : Bor (List ℕ)) → k.now ≡ key → p ≡ patch.null → IsWithout (step.Key k) t u → MergesMember Merge key p t u
  merges : (k : Bor (List ℕ)) → k.now ≡ key → p ≢ patch.null → ChangesAt Merge (step.Key k ∷ []) t u → MergesMember Merge key p t u
  joins : (v : Tree) → p ≢ patch.null → Merge null v → Joins key v t u → MergesMember Merge key p t u

abbrev mutual
  -- the patch merged into t gives u, whatever marks its strings and keys have: a patch that is no object takes its place,
  -- and an object is merged member by member
  pub Merges : Datum → Tree → Tree → Type 0
  Merges (patch.object fs) t u = (w : Tree) × MergesEach fs (object_or_empty t) w × (unmarked u ≡ unmarked w)
  Merges p t u = unmarked u ≡ datum_tree p

  -- the members of the patch, one after the other
  pub MergesEach : Fields → Tree → Tree → Type 0
  MergesEach no_field t u = u ≡ t
  MergesEach (field k p fs) t u = (between : Tree) × MergesMember (Merges p) (encode_utf8_all k) p t between × MergesEach fs between u
