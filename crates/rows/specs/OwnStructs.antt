-- What the structs of the rows take of an object, a field a line, and what is written of one.
-- A promise rests on this.
use Rattle.std.specs.Prelude.{ℕ, ◌^◌, List, Option, codes}
use Rattle.std.specs.Str.{chars}
use Rattle.json5.specs.Convert.{text_of, escape_free_of, unsigned_below}
use Rattle.json5.specs.Plans.{Plan, plan_required, plan_and}
use Rattle.json5.specs.WrittenTrees.{Fields, field, no_field, named, text, natural}
use Rattle.rows.specs.declared.own_structs.Config.{Config}

abbrev pub person : Plan (Option (List ℕ) × Option ℕ) (List ℕ × ℕ)
person =
    plan_and (plan_required (codes "name") text_of)
    (plan_required (codes "age") (unsigned_below (2 ^ 32)))

abbrev pub letters : Plan (Option ℕ × Option ℕ) (ℕ × ℕ)
letters =
    plan_and (plan_required (codes "a") (unsigned_below (2 ^ 8)))
    (plan_required (codes "b") (unsigned_below (2 ^ 8)))

abbrev pub config : Plan (Option ℕ × Option (List ℕ)) (ℕ × List ℕ)
config =
    plan_and (plan_required (codes "foo") (unsigned_below (2 ^ 32)))
    (plan_required (codes "bar") escape_free_of)

abbrev pub config_fields : Config → Fields
config_fields c =
    field (named (chars (codes "foo"))) (natural c.foo)
    (field (named (chars (codes "bar"))) (text (chars c.bar.now)) no_field)
