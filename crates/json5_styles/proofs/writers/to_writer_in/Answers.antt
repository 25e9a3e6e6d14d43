use Rattle.std.proofs.Common.{true, refl, sym, ◌∙◌, rules}
use Rattle.json5_types.specs.ValueLookups.{fits}
use Rattle.json5_types.specs.ValueMeanings.{value_of}
use Rattle.json5_styles.proofs.Refusals.{both_true, one_false}
use Rattle.json5_styles.proofs.writers.to_writer_in.Goals as goal

pub write_in-requires : goal.write_in-requires
write_in-requires g c = (both_true _ _ (sym c.can_be_written.ensures ∙ c.if-not-can_be_written.false)).0

pub returns-then-not-can_be_written : goal.returns-then-not-can_be_written
returns-then-not-can_be_written g c =
    let deep = one_false (fits (value_of c.args.value.now)) true (sym c.can_be_written.ensures ∙ c.if-not-can_be_written.true) refl in
    rw deep (search rules, search rules)
