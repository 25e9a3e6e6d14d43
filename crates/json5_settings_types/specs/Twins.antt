-- Lists without twins.
-- A promise rests on this.
use Rattle.std.specs.Prelude.{◌≡◌, ◌&&◌, not, ℕ, Bool, true, false, if◌then◌else◌, List, [], ◌∷◌, map, Option, Some, None, String, string_bytes}
use Rattle.std.specs.declared.alloc.Global.{Global}
use Rattle.std.specs.Borrow.{Bor}
use Rattle.std.specs.BTreeSet.{BTreeSet, contains_by}
use Rattle.std.specs.Ordering.{eq_by_cmp}
use Rattle.std.specs.declared.cmp.Ordering.{Ordering}
use Rattle.std.specs.List.{All, list_any}
use Rattle.std.specs.Str.{bytes_eq}
use Rattle.json5_grammar.specs.Language.Trees.{Tree}
use Rattle.json5_grammar.specs.Model.Collections.{array_of, contents}
use Rattle.json5_de.specs.Convert.{text_of}
use Rattle.json5_de.specs.Refinement.{refined}
use Rattle.json5_ser.specs.EscapeFreeMarks.{marks}
use Rattle.json5_ser.specs.WrittenTrees.{Written, array, elements_of}

-- one of these is like it
abbrev pub is_like_one : {C : Type 0} → (C → C → Bool) → List C → C → Bool
is_like_one same cs c = list_any (λ d. same d c) cs

-- none is like a later one
abbrev pub no_twins : {C : Type 0} → (C → C → Bool) → List C → Bool
no_twins same [] = true
no_twins same (c ∷ cs) = not (list_any (same c) cs) && no_twins same cs

-- the list, where no two are alike
abbrev pub if_no_twins : {C : Type 0} → (C → C → Bool) → List C → Option (List C)
if_no_twins same cs = if no_twins same cs then Some cs else None

-- the place of an element that is like another, where there is one
abbrev pub HasTwin : {C : Type 0} → (C → C → Bool) → List C → Option ℕ → Type 0
HasTwin same cs None = no_twins same cs ≡ true
HasTwin same cs (Some place) = no_twins same cs ≡ false

-- the set has these elements
abbrev pub HasElements : {V : Type 0} → (V → V → Ordering) → BTreeSet (Bor V) → List V → Type 0
HasElements {V = V} cmp s vs = (q : Bor V) → contains_by (λ k. cmp q.now k.now) s ≡ is_like_one (eq_by_cmp cmp) vs q.now

-- what is written of a list without twins reads back, if its elements do
abbrev pub UniqueReadsBack : {V C : Type 0} → (C → C → Bool) → (V → Written) → (Tree → Option C) → (V → C) → Type 0
UniqueReadsBack {V = V} same tree convert content =
    (vs : List V) → no_twins same (map content vs) ≡ true → All (λ v. convert (marks (tree v)) ≡ Some (content v)) vs
    → refined (array_of (contents convert)) (if_no_twins same) (marks (array (elements_of tree vs))) ≡ Some (map content vs)

-- the texts of a list, by their bytes
abbrev pub texts_in : List (String Global) → List (List ℕ)
texts_in values = map string_bytes values

-- what is written of texts that differ is read as the same
abbrev pub TextsReadBack : (String Global → Written) → Type 0
TextsReadBack tree =
    (values : List (String Global)) → no_twins bytes_eq (texts_in values) ≡ true
    → refined (array_of (contents text_of)) (if_no_twins bytes_eq) (marks (array (elements_of tree values))) ≡ Some (texts_in values)
