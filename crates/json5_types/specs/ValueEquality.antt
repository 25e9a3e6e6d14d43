-- Which values are equal: those with the same meaning.
-- A promise rests on this.
use Rattle.std.specs.Prelude.{◌≡◌, ℕ, Bool, true, false, ◌&&◌, nat_eq, List}
use Rattle.std.proofs.Common.{refl, ap, sym, ◌∙◌}
use mathlib.Core.Bool.{true≢false}
use Rattle.std.specs.Bool.{Decides, beq}
use Rattle.std.specs.Ordering.{int_eq}
use Rattle.std.specs.Cmp.{IsEquivalence, decided, booleans_Decides, signed_Decides, first_so, second_so}
use Rattle.std.specs.Cmp.Derive.{both_true}
use Rattle.std.specs.Cmp.Lexicographic.{pointwise, bytes_decides}
use Rattle.json5_grammar.specs.Language.Numbers.{Number, whole, decimal}
use Rattle.json5_types.specs.NumberDecimals.{decimal_eq}
use Rattle.json5_types.specs.DecimalEquality.{decimal_Decides}
use Rattle.json5_types.specs.ValueMeanings.{Datum, null, boolean, number, text, array, object, Items, no_item, item, Fields, no_field, field}

abbrev pub number_eq : Number → Number → Bool
number_eq (whole z) (whole w) = int_eq z w
number_eq (whole z) (decimal e) = false
number_eq (decimal d) (whole w) = false
number_eq (decimal d) (decimal e) = decimal_eq d e

abbrev mutual
  pub datum_eq : Datum → Datum → Bool
  datum_eq null null = true
  datum_eq (boolean a) (boolean b) = beq a b
  datum_eq (number m) (number n) = number_eq m n
  datum_eq (text u) (text v) = pointwise nat_eq u v
  datum_eq (array xs) (array ys) = items_eq xs ys
  datum_eq (object fs) (object gs) = fields_eq fs gs
  datum_eq _ _ = false

  pub items_eq : Items → Items → Bool
  items_eq no_item no_item = true
  items_eq (item x xs) (item y ys) = datum_eq x y && items_eq xs ys
  items_eq _ _ = false

  pub fields_eq : Fields → Fields → Bool
  fields_eq no_field no_field = true
  fields_eq (field u x fs) (field v y gs) = pointwise nat_eq u v && (datum_eq x y && fields_eq fs gs)
  fields_eq _ _ = false

number_means : (m n : Number) → number_eq m n ≡ true → m ≡ n
number_means (whole z) (whole w) h = ap whole ((signed_Decides z w).0 h)
number_means (decimal d) (decimal e) h = ap decimal ((decimal_Decides d e).0 h)
number_means _ _ h = absurd (true≢false (sym h))

number_self : (m : Number) → number_eq m m ≡ true
number_self (whole z) = (signed_Decides z z).1 refl
number_self (decimal d) = (decimal_Decides d d).1 refl

item_from : (x y : Datum) (xs ys : Items) → x ≡ y → xs ≡ ys → item x xs ≡ item y ys
item_from x y xs ys h k = ap (λ z. item z xs) h ∙ ap (item y) k

field_from : (u v : List ℕ) (x y : Datum) (fs gs : Fields) → u ≡ v → x ≡ y → fs ≡ gs → field u x fs ≡ field v y gs
field_from u v x y fs gs h k l = ap (λ z. field z x fs) h ∙ (ap (λ z. field v z fs) k ∙ ap (field v y) l)

mutual
  datum_means : (x y : Datum) → datum_eq x y ≡ true → x ≡ y
  datum_means null null h = refl
  datum_means (boolean a) (boolean b) h = ap boolean ((booleans_Decides a b).0 h)
  datum_means (number m) (number n) h = ap number (number_means m n h)
  datum_means (text u) (text v) h = ap text ((bytes_decides u v).0 h)
  datum_means (array xs) (array ys) h = ap array (items_means xs ys h)
  datum_means (object fs) (object gs) h = ap object (fields_means fs gs h)
  datum_means _ _ h = absurd (true≢false (sym h))

  items_means : (xs ys : Items) → items_eq xs ys ≡ true → xs ≡ ys
  items_means no_item no_item h = refl
  items_means (item x xs) (item y ys) h = item_from x y xs ys (datum_means x y (first_so (datum_eq x y) (items_eq xs ys) h)) (items_means xs ys (second_so (datum_eq x y) (items_eq xs ys) h))
  items_means _ _ h = absurd (true≢false (sym h))

  fields_means : (fs gs : Fields) → fields_eq fs gs ≡ true → fs ≡ gs
  fields_means no_field no_field h = refl
  fields_means (field u x fs) (field v y gs) h =
      let k = second_so (pointwise nat_eq u v) (datum_eq x y && fields_eq fs gs) h in
      field_from u v x y fs gs ((bytes_decides u v).0 (first_so (pointwise nat_eq u v) (datum_eq x y && fields_eq fs gs) h))
      (datum_means x y (first_so (datum_eq x y) (fields_eq fs gs) k)) (fields_means fs gs (second_so (datum_eq x y) (fields_eq fs gs) k))
  fields_means _ _ h = absurd (true≢false (sym h))

mutual
  datum_self : (x : Datum) → datum_eq x x ≡ true
  datum_self null = refl
  datum_self (boolean a) = (booleans_Decides a a).1 refl
  datum_self (number m) = number_self m
  datum_self (text u) = (bytes_decides u u).1 refl
  datum_self (array xs) = items_self xs
  datum_self (object fs) = fields_self fs

  items_self : (xs : Items) → items_eq xs xs ≡ true
  items_self no_item = refl
  items_self (item x xs) = both_true (datum_self x) (items_self xs)

  fields_self : (fs : Fields) → fields_eq fs fs ≡ true
  fields_self no_field = refl
  fields_self (field u x fs) = both_true ((bytes_decides u u).1 refl) (both_true (datum_self x) (fields_self fs))

pub datum_Decides : (x y : Datum) → Decides (datum_eq x y) (x ≡ y)
datum_Decides x y = (datum_means x y, λ e. ap (datum_eq x) (sym e) ∙ datum_self x)

pub datum_equivalence : IsEquivalence datum_eq
datum_equivalence = decided datum_eq datum_Decides
