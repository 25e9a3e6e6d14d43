-- What a value becomes whose elements or members are changed.
use Rattle.std.proofs.Common.{◌≡◌, ◌∙◌, ℕ, List, Result, Ok, Err, refl, sym, ap, String}
use Rattle.std.specs.Prelude.{Option, Some, None}
use Rattle.std.specs.declared.alloc.Global.{Global}
use Rattle.json5_grammar.specs.declared.error_code.ErrorCode.TheVariants as codes
use Rattle.json5_types.specs.declared.error.Error.{Error}
use Rattle.json5_types.specs.declared.value.Value.{Value}
use Rattle.json5_types.specs.MemberPlaces.{PutsMember}
use Rattle.json5_types.specs.ValueChanges.{Changes, inserted}
use Rattle.json5_types.specs.ValueLookups.{items_in, fields_in}
use Rattle.json5_types.specs.ValueMeanings.{Datum, null, boolean, number, text, array, object, Items, Fields, fields_view}

-- ---- the value of a kind

pub array_from : (x : Datum) (xs : Items) → Some xs ≡ items_in x → x ≡ array xs
array_from (array ys) xs e = cc
array_from null xs e = absurd (cc)
array_from (boolean b) xs e = absurd (cc)
array_from (number n) xs e = absurd (cc)
array_from (text u) xs e = absurd (cc)
array_from (object fs) xs e = absurd (cc)

pub object_from : (x : Datum) (fs : Fields) → Some fs ≡ fields_in x → x ≡ object fs
object_from (object gs) fs e = cc
object_from null fs e = absurd (cc)
object_from (boolean b) fs e = absurd (cc)
object_from (number n) fs e = absurd (cc)
object_from (text u) fs e = absurd (cc)
object_from (array xs) fs e = absurd (cc)

pub no_object : (key : List ℕ) (y x : Datum) → None ≡ fields_in x → inserted key y x ≡ None
no_object key y (object fs) e = absurd (cc)
no_object key y null e = refl
no_object key y (boolean b) e = refl
no_object key y (number n) e = refl
no_object key y (text u) e = refl
no_object key y (array xs) e = refl

-- ---- members that are put

pub member_put : (key : List ℕ) (y x z : Datum) (old new : List (String Global × Value)) (r : Result (Option Value) Error) → x ≡ object (fields_view old) → z ≡ object (fields_view new) → PutsMember key y old r new → Changes (inserted key y) codes.ExpectedOpeningBrace x r z
member_put key y x z old new (Ok found) e f p = rw (e, f) (ap (λ fs. Some (object fs)) (sym p.0))
member_put key y x z old new (Err fault) e f p = (f ∙ ap (λ ms. object (fields_view ms)) p.0 ∙ sym e, rw e (record { kind = p.1.kind; place = p.1.place }))
