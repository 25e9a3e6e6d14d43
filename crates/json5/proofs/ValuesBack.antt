-- What is written of a value of any kind reads back as the same.
use Rattle.std.proofs.Common.{◌≡◌, refl, ap, Some}
use Rattle.json5_types.specs.ValueMeanings as datum
use Rattle.json5_types.specs.ValueMeanings.{Datum, Items, no_item, item, Fields}
use Rattle.json5_de.specs.Convert.{datum_of, items_of, fields_of, every_datum}
use Rattle.json5_ser.specs.EscapeFreeMarks.{marks, element_marks, field_marks}
use Rattle.json5_ser.specs.ValueTrees.{datum_tree, items_tree, fields_tree}
use Rattle.json5.specs.ReadsBack.{ReadsBack}

mutual
  datum_again : (d : Datum) → datum_of (marks (datum_tree d)) ≡ d
  datum_again datum.null = refl
  datum_again (datum.boolean b) = refl
  datum_again (datum.number n) = refl
  datum_again (datum.text u) = refl
  datum_again (datum.array xs) = rw (items_again xs) refl
  datum_again (datum.object fs) = rw (fields_again fs) refl

  items_again : (xs : Items) → items_of (element_marks (items_tree xs)) ≡ xs
  items_again no_item = refl
  items_again (item x xs) = rw (datum_again x, items_again xs) refl

  fields_again : (fs : Fields) → fields_of (field_marks (fields_tree fs)) ≡ fs
  fields_again datum.no_field = refl
  fields_again (datum.field u x fs) = rw (datum_again x, fields_again fs) refl

pub datum_back : (d : Datum) → ReadsBack datum_tree every_datum (λ d. d) d
datum_back d = ap Some (datum_again d)
