use Rattle.std.specs.Str.{chars}
use lib.Chars.{codes}
use Rattle.json5_types.specs.ValueMeanings.{value_of, fields_view}
use Rattle.json5_schema.specs.Conformance.{beside}
use Rattle.json5_schema.proofs.Parts.{patterned_by}
use Rattle.json5_schema.proofs.asked.is_patterned.Goals as goal

pub returns-in-Some : goal.returns-in-Some
returns-in-Some c =
    patterned_by (beside (codes "patternProperties") (fields_view c.args.keywords.now)) (value_of c.in-Some.schemas.now) (chars c.args.name.now) c.is_matched_in.result (rw c.in-Some.is at c.find.ensures) c.is_matched_in.ensures
