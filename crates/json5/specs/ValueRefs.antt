-- What a value means whose texts are borrowed, and how it is read.
-- A promise rests on this.
use Rattle.std.specs.Prelude.{◌≡◌, ℕ, List, [], ◌∷◌, map, Result, IfOk, IfErr, MatchResult}
use Rattle.std.specs.Str.{chars}
use Rattle.json5_grammar.specs.Language.Documents.{Doc}
use Rattle.json5_grammar.specs.Language.Numbers.{whole, decimal}
use Rattle.json5_grammar.specs.Language.Trees.{Tree}
use Rattle.json5_tokens.specs.Cursor.{IsOutOfMemory}
use Rattle.json5_types.specs.declared.cow_str.CowStr.{CowStr}
use Rattle.json5_types.specs.declared.error.Error.{Error}
use Rattle.json5_types.specs.Cows.{cow_bytes}
use Rattle.json5_types.specs.ValueMeanings.{Datum, null, boolean, number, text, array, object, Items, items_of, Fields, no_field, field}
use Rattle.json5_read.specs.DocumentReads.{IsRefusedWithin}
use Rattle.json5_read.specs.TreeMeanings.{datum_of}
use Rattle.json5.specs.declared.value_ref.ValueRef.{ValueRef, fold-ValueRef}
use Rattle.json5.specs.declared.value_ref.ValueRef.TheOpen.{ValueRef-F}

abbrev pub datum_members : List (CowStr × Datum) → Fields
datum_members [] = no_field
datum_members (f ∷ fs) = field (chars (cow_bytes f.0)) f.1 (datum_members fs)

-- one level, with each value inside already seen as what it means
abbrev pub ref_step : ValueRef-F Datum → Datum
ref_step ValueRef-F.Null = null
ref_step (ValueRef-F.Bool b) = boolean b
ref_step (ValueRef-F.Whole z) = number (whole z)
ref_step (ValueRef-F.Decimal d) = number (decimal d)
ref_step (ValueRef-F.String s) = text (chars (cow_bytes s))
ref_step (ValueRef-F.Array v) = array (items_of v.items)
ref_step (ValueRef-F.Object v) = object (datum_members v.items)

-- the same as an owned value of that kind
abbrev pub ref_of : ValueRef → Datum
ref_of = fold-ValueRef Datum ref_step

abbrev pub refs_view : List ValueRef → Items
refs_view vs = items_of (map ref_of vs)

abbrev pub members_view : List (CowStr × ValueRef) → Fields
members_view fs = datum_members (map (λ f. (f.0, ref_of f.1)) fs)

-- Ok(v) exactly when x is a document within the limit, and then v is what its tree means; unless memory runs out
pub record ReadsRef (limit : ℕ) (x : List ℕ) (result : Result ValueRef Error) : Type 0 where
  pub sound : IfOk result (λ v. (t : Tree) × Doc limit x t × (ref_of v ≡ datum_of t))
  pub complete : (t : Tree) → Doc limit x t → MatchResult result (λ v. ref_of v ≡ datum_of t) IsOutOfMemory
  pub refused : IfErr result (IsRefusedWithin limit x)
