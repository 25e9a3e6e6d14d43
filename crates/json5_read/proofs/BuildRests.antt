-- What is left of an array and of an object, step by step, after what was read of it.
use Rattle.std.proofs.Common.{◌≡◌, ℕ, suc, Bool, true, false, cond, List, [], ◌∷◌, ◌++◌, refl, ap, ◌∙◌, Option, Some, None, String, string_bytes}
use Rattle.std.specs.declared.alloc.Global.{Global}
use Rattle.std.specs.Str.{chars}
use Rattle.json5_grammar.specs.Faults.Fronts.{of_array, of_object}
use Rattle.json5_grammar.specs.Model.Reading.{Read, here, inner, got, bad, and_then, placed}
use Rattle.json5_grammar.specs.Model.ReadSteps.{entry_at, separator, next_value, trees_of, trees_after, read_pairs, pairs_after, key_at, first_of_trees, goes_on_with, member_or_end}
use Rattle.json5_grammar.specs.Model.ReadValues.{read}
use Rattle.json5_grammar.specs.Language.Trees.{Tree, Trees, Members, array, object, no_more, more, no_member, member}
use Rattle.json5_grammar.proofs.TreeSteps.{trees_step, trees_later, pairs_step, pairs_later, read_array, read_object}
use Rattle.json5_types.specs.declared.value.Value.{Value}
use Rattle.json5_types.specs.ValueMeanings as views
use Rattle.json5_types.specs.ValueMeanings.{Datum, Items, Fields, no_item, item, no_field, field, value_of, items_view, fields_view}
use Rattle.json5_read.specs.BuildSteps.{elements_before, members_before, array_with, object_with, rest_of_array, rest_of_object}
use Rattle.json5_read.specs.OwnedReads.{as_datum, next_key}
use Rattle.json5_read.specs.TreeMeanings.{datum_of, items_of, fields_of}

-- ---- arrays

-- a value and what follows it
abbrev pub element_and_rest : (Items → Items) → ℕ → List ℕ → Read Datum
element_and_rest before d y = and_then (as_datum (read d y)) (λ x z. array_with (λ xs. before (item x xs)) (trees_after d z))

-- it comes next, or the array was closed
abbrev pub array_turn : (Items → Items) → ℕ → Bool → List ℕ → Read Datum
array_turn before d goes y = cond goes (element_and_rest before d y) (got (views.array (before no_item)) y)

element_last : (before : Items → Items) (t : Tree) (m : Read Trees) → array_with before (and_then m (λ ts z. got (more t ts) z)) ≡ array_with (λ xs. before (item (datum_of t) xs)) m
element_last before t (got ts z) = refl
element_last before t (bad e p) = refl

element_first : (before : Items → Items) (d : ℕ) (m : Read Tree)
    → array_with before (and_then m (λ t y. and_then (trees_after d y) (λ ts z. got (more t ts) z))) ≡ and_then (as_datum m) (λ x z. array_with (λ xs. before (item x xs)) (trees_after d z))
element_first before d (got t y) = element_last before t (trees_after d y)
element_first before d (bad e p) = refl

array_goes : (before : Items → Items) (d : ℕ) (m : Read Bool) → array_with before (and_then m (goes_on_with no_more (first_of_trees d))) ≡ and_then m (array_turn before d)
array_goes before d (got true y) = element_first before d (read d y)
array_goes before d (got false y) = refl
array_goes before d (bad e p) = refl

first_element : (before : Items → Items) (d : ℕ) (x : List ℕ) → array_with before (trees_of d x) ≡ and_then (entry_at of_array x) (array_turn before d)
first_element before d x = ap (array_with before) (trees_step d x) ∙ array_goes before d (entry_at of_array x)

element_after_comma : (before : Items → Items) (d : ℕ) (m : Read Bool)
    → array_with before (and_then m (goes_on_with no_more (trees_of d))) ≡ and_then (and_then m (λ goes y. cond goes (entry_at of_array y) (got false y))) (array_turn before d)
element_after_comma before d (got true y) = first_element before d y
element_after_comma before d (got false y) = refl
element_after_comma before d (bad e p) = refl

-- what is left of an array is an element and then the rest, or the closing bracket
pub array_step : (vs : List Value) (comma_due : Bool) (d : ℕ) (x : List ℕ) → rest_of_array vs comma_due d x ≡ and_then (next_value of_array comma_due x) (array_turn (elements_before vs) d)
array_step vs false d x = first_element (elements_before vs) d x
array_step vs true d x = ap (array_with (elements_before vs)) (trees_later d x) ∙ element_after_comma (elements_before vs) d (separator of_array x)

pub no_more_elements : (vs : List Value) → elements_before vs no_item ≡ items_view vs
no_more_elements [] = refl
no_more_elements (v ∷ vs) = ap (item (value_of v)) (no_more_elements vs)

element_kept : (vs : List Value) (v : Value) (xs : Items) → elements_before (vs ++ v ∷ []) xs ≡ elements_before vs (item (value_of v) xs)
element_kept [] v xs = refl
element_kept (w ∷ vs) v xs = ap (item (value_of w)) (element_kept vs v xs)

-- an element was added to the others
pub array_grown : (vs ws : List Value) (v : Value) (d : ℕ) (y : List ℕ) → ws ≡ vs ++ v ∷ [] → rest_of_array ws true d y ≡ array_with (λ xs. elements_before vs (item (value_of v) xs)) (trees_after d y)
array_grown vs ws v d y grown = ap (λ us. rest_of_array us true d y) grown ∙ by_answer (trees_after d y)
  where
    by_answer : (m : Read Trees) → array_with (elements_before (vs ++ v ∷ [])) m ≡ array_with (λ xs. elements_before vs (item (value_of v) xs)) m
    by_answer (got ts z) = ap (λ xs. got (views.array xs) z) (element_kept vs v (items_of ts))
    by_answer (bad e p) = refl

placed_array : (q : List ℕ) (m : Read Trees) → as_datum (placed q (and_then m (λ ts y. got (array ts) y))) ≡ placed q (array_with (elements_before []) m)
placed_array q (got ts y) = refl
placed_array q (bad e (here p)) = refl
placed_array q (bad e inner) = refl

-- an array is what is left after its bracket
pub array_opened : (d : ℕ) (r : List ℕ) → as_datum (read (suc d) (91 ∷ r)) ≡ placed (91 ∷ r) (rest_of_array [] false d r)
array_opened d r = ap as_datum (read_array d r) ∙ placed_array (91 ∷ r) (trees_of d r)

-- ---- objects

-- a value of this key and what follows it
abbrev pub member_and_rest : (Fields → Fields) → ℕ → List ℕ → List ℕ → Read Datum
member_and_rest before d u y = and_then (as_datum (read d y)) (λ x z. object_with (λ xs. before (field u x xs)) (pairs_after d z))

abbrev pub object_turn : (Fields → Fields) → ℕ → Option (List ℕ × Bool) → List ℕ → Read Datum
object_turn before d None y = got (views.object (before no_field)) y
object_turn before d (Some a) y = member_and_rest before d a.0 y

member_last : (before : Fields → Fields) (a : List ℕ × Bool) (t : Tree) (m : Read Members) → object_with before (and_then m (λ ps z. got (member a.0 a.1 t ps) z)) ≡ object_with (λ xs. before (field a.0 (datum_of t) xs)) m
member_last before a t (got ps z) = refl
member_last before a t (bad e p) = refl

member_first : (before : Fields → Fields) (d : ℕ) (a : List ℕ × Bool) (m : Read Tree)
    → object_with before (and_then m (λ t y. and_then (pairs_after d y) (λ ps z. got (member a.0 a.1 t ps) z))) ≡ and_then (as_datum m) (λ x z. object_with (λ xs. before (field a.0 x xs)) (pairs_after d z))
member_first before d a (got t y) = member_last before a t (pairs_after d y)
member_first before d a (bad e p) = refl

object_goes : (before : Fields → Fields) (d : ℕ) (m : Read (Option (List ℕ × Bool))) → object_with before (and_then m (member_or_end d)) ≡ and_then m (object_turn before d)
object_goes before d (got (Some a) y) = member_first before d a (read d y)
object_goes before d (got None y) = refl
object_goes before d (bad e p) = refl

first_member : (before : Fields → Fields) (d : ℕ) (x : List ℕ) → object_with before (read_pairs d x) ≡ and_then (key_at x) (object_turn before d)
first_member before d x = ap (object_with before) (pairs_step d x) ∙ object_goes before d (key_at x)

member_after_comma : (before : Fields → Fields) (d : ℕ) (m : Read Bool)
    → object_with before (and_then m (goes_on_with no_member (read_pairs d))) ≡ and_then (and_then m (λ goes y. cond goes (key_at y) (got None y))) (object_turn before d)
member_after_comma before d (got true y) = first_member before d y
member_after_comma before d (got false y) = refl
member_after_comma before d (bad e p) = refl

-- what is left of an object is a member and then the rest, or the closing brace
pub object_step : (fs : List (String Global × Value)) (comma_due : Bool) (d : ℕ) (x : List ℕ) → rest_of_object fs comma_due d x ≡ and_then (next_key comma_due x) (object_turn (members_before fs) d)
object_step fs false d x = first_member (members_before fs) d x
object_step fs true d x = ap (object_with (members_before fs)) (pairs_later d x) ∙ member_after_comma (members_before fs) d (separator of_object x)

pub no_more_members : (fs : List (String Global × Value)) → members_before fs no_field ≡ fields_view fs
no_more_members [] = refl
no_more_members (f ∷ fs) = ap (field (chars (string_bytes f.0)) (value_of f.1)) (no_more_members fs)

member_kept : (fs : List (String Global × Value)) (f : String Global × Value) (xs : Fields) → members_before (fs ++ f ∷ []) xs ≡ members_before fs (field (chars (string_bytes f.0)) (value_of f.1) xs)
member_kept [] f xs = refl
member_kept (g ∷ fs) f xs = ap (field (chars (string_bytes g.0)) (value_of g.1)) (member_kept fs f xs)

-- a member was added to the others
pub object_grown : (fs gs : List (String Global × Value)) (key : String Global) (v : Value) (d : ℕ) (y : List ℕ) → gs ≡ fs ++ (key, v) ∷ []
    → rest_of_object gs true d y ≡ object_with (λ xs. members_before fs (field (chars (string_bytes key)) (value_of v) xs)) (pairs_after d y)
object_grown fs gs key v d y grown = ap (λ us. rest_of_object us true d y) grown ∙ by_answer (pairs_after d y)
  where
    by_answer : (m : Read Members) → object_with (members_before (fs ++ (key, v) ∷ [])) m ≡ object_with (λ xs. members_before fs (field (chars (string_bytes key)) (value_of v) xs)) m
    by_answer (got ps z) = ap (λ xs. got (views.object xs) z) (member_kept fs (key, v) (fields_of ps))
    by_answer (bad e p) = refl

placed_object : (q : List ℕ) (m : Read Members) → as_datum (placed q (and_then m (λ ps y. got (object ps) y))) ≡ placed q (object_with (members_before []) m)
placed_object q (got ps y) = refl
placed_object q (bad e (here p)) = refl
placed_object q (bad e inner) = refl

-- an object is what is left after its brace
pub object_opened : (d : ℕ) (r : List ℕ) → as_datum (read (suc d) (123 ∷ r)) ≡ placed (123 ∷ r) (rest_of_object [] false d r)
object_opened d r = ap as_datum (read_object d r) ∙ placed_object (123 ∷ r) (read_pairs d r)
