use Rattle.json5_edit_values.proofs.edits.insert_value.Goals as goal

pub returns : goal.returns
returns g c = rw c.of_text.ensures at c.insert_value_in.ensures
