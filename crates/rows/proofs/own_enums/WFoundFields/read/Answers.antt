use Rattle.std.proofs.Common.{refl, codes, None}
use Rattle.json5.proofs.Structs.{Part, here, in_first, in_others, other, pass, not_named, takes_field, passes_pair}
use Rattle.rows.specs.OwnEnums.{i32_of, w_read}
use Rattle.rows.proofs.own_enums.WFoundFields.read.Goals as goal

abbrev a : Part w_read.step (codes "a") i32_of
a = in_first here (other _ (codes "b") refl)

abbrev b : Part w_read.step (codes "b") i32_of
b = in_others (other _ (codes "a") refl) here

pub returns-in-a-clause-takes : goal.returns-in-a-clause-takes
returns-in-a-clause-takes g c = rw c.in-a.is (takes_field (None, _) a c.next_field.ensures.reads)

pub returns-in-b-clause-takes : goal.returns-in-b-clause-takes
returns-in-b-clause-takes g c = rw c.in-b.is (takes_field (_, None) b c.next_field-in-b.ensures.reads)

pub returns-in_default-clause-takes : goal.returns-in_default-clause-takes
returns-in_default-clause-takes g c = passes_pair (pass (not_named _ c.in_default.not-a) (not_named _ c.in_default.not-b)) c.skip_value.ensures.passes
