use Rattle.std.proofs.Common.{refl, codes, None, ◌^◌}
use Rattle.json5.specs.Convert.{text_of, unsigned_below}
use Rattle.json5.proofs.Structs.{Part, here, in_first, in_others, other, pass, not_named, takes_field, passes_pair}
use Rattle.rows.specs.OwnStructs.{person}
use Rattle.rows.proofs.own_structs.PersonFoundFields.read.Goals as goal

abbrev name : Part person.step (codes "name") text_of
name = in_first here (other _ (codes "age") refl)

abbrev age : Part person.step (codes "age") (unsigned_below (2 ^ 32))
age = in_others (other _ (codes "name") refl) here

pub returns-in-name-clause-takes : goal.returns-in-name-clause-takes
returns-in-name-clause-takes g c = rw c.in-name.is (takes_field (None, _) name c.next_field.ensures.reads)

pub returns-in-age-clause-takes : goal.returns-in-age-clause-takes
returns-in-age-clause-takes g c = rw c.in-age.is (takes_field (_, None) age c.next_field-in-age.ensures.reads)

pub returns-in_default-clause-takes : goal.returns-in_default-clause-takes
returns-in_default-clause-takes g c = passes_pair (pass (not_named _ c.in_default.not-name) (not_named _ c.in_default.not-age)) c.skip_value.ensures.passes
