-- Where no member is additional, none of the last with their names is.
use Rattle.std.proofs.Common.{◌≡◌, ◌∙◌, if◌then◌else◌, Bool, true, false, ◌||◌, List, [], refl, sym}
use Rattle.json5_types.specs.ValueMeanings.{Datum, Fields, no_field, field}
use Rattle.json5_numbers.specs.Sameness.{is_named}
use Rattle.json5_schema.specs.Conformance.{each_additional, has_additional, is_additional, latest}

neither : (a b : Bool) → (a || b) ≡ false → (a ≡ false) × (b ≡ false)
neither false b e = (refl, e)
neither true b e = (e, absurd (cc))

pub none_additional : (s : Datum) (keywords fs : Fields) → has_additional keywords fs ≡ false → each_additional s keywords (latest fs) ≡ []
none_additional s keywords no_field h = refl
none_additional s keywords (field u x fs) h =
    let none = neither (is_additional keywords u) (has_additional keywords fs) h in
    by none.0 (none_additional s keywords fs none.1) (is_named u fs)
  where
    by : is_additional keywords u ≡ false → each_additional s keywords (latest fs) ≡ [] → (b : Bool) → each_additional s keywords (if b then latest fs else field u x (latest fs)) ≡ []
    by first rest true = rest
    by first rest false = rw first rest
