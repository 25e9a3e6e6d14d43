use Rattle.std.proofs.Common.{sym, ◌∙◌, rules}
use Rattle.json5_types.specs.ValueMeanings.{value_of}
use Rattle.json5_styles.specs.Layouts.{json_text}
use Rattle.json5_styles.proofs.Refusals.{both_true, stopped, written}
use Rattle.json5_styles.proofs.writers.to_json_writer_in.Goals as goal

pub write_in-requires : goal.write_in-requires
write_in-requires g c = (both_true _ _ (sym c.can_be_written.ensures ∙ c.if-not-can_be_written.false)).0

pub returns-then-not-can_be_written : goal.returns-then-not-can_be_written
returns-then-not-can_be_written g c = stopped _ _ _ _ _ _ (sym c.can_be_written.ensures ∙ c.if-not-can_be_written.true) c.json_fault.ensures (search rules)

pub returns : goal.returns
returns g c =
    let fine = both_true _ _ (sym c.can_be_written.ensures ∙ c.if-not-can_be_written.false) in
    let x = value_of c.args.value.now in
    written (json_text c.args.layout x) x (g.W.Write.contents c.args.w.now) (g.W.Write.contents c.write_in.new.w) c.write_in.result fine.0 fine.1 c.write_in.ensures
