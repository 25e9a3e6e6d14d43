use Rattle.std.proofs.Common.{refl, codes, None, ◌^◌}
use Rattle.json5.specs.Convert.{escape_free_of, unsigned_below}
use Rattle.json5.proofs.Structs.{Part, here, in_first, in_others, other, pass, not_named, takes_field, passes_pair}
use Rattle.rows.specs.OwnStructs.{config}
use Rattle.rows.proofs.own_structs.ConfigFoundFields.read.Goals as goal

abbrev foo : Part config.step (codes "foo") (unsigned_below (2 ^ 32))
foo = in_first here (other _ (codes "bar") refl)

abbrev bar : Part config.step (codes "bar") escape_free_of
bar = in_others (other _ (codes "foo") refl) here

pub returns-in-foo-clause-takes : goal.returns-in-foo-clause-takes
returns-in-foo-clause-takes g c = rw c.in-foo.is (takes_field (None, _) foo c.next_field.ensures.reads)

pub returns-in-bar-clause-takes : goal.returns-in-bar-clause-takes
returns-in-bar-clause-takes g c = rw c.in-bar.is (takes_field (_, None) bar c.next_field-in-bar.ensures.reads)

pub returns-in_default-clause-takes : goal.returns-in_default-clause-takes
returns-in_default-clause-takes g c = passes_pair (pass (not_named _ c.in_default.not-foo) (not_named _ c.in_default.not-bar)) c.skip_value.ensures.passes
