-- The content of the first of some variants, or of a later one.
-- A promise rests on this.
use Rattle.json5_fields.specs.VariantContents.{Either, first, later}
use Rattle.json5_fields.specs.declared.variants.OneOf.{OneOf}
use Rattle.json5_fields.specs.declared.variants.OneOf.TheVariants.{First, Later}

abbrev pub either_content : {V W A B : Type 0} → (V → A) → (W → B) → OneOf V W → Either A B
either_content f g (First v) = first (f v)
either_content f g (Later w) = later (g w)
