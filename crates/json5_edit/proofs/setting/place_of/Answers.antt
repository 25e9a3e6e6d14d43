use Rattle.json5_edit.proofs.setting.place_of.Goals as goal

pub returns-in-Err-clause-refused : goal.returns-in-Err-clause-refused
returns-in-Err-clause-refused c = c.of_text.ensures c.args.text.now c.args.path.now c.in-Err.ensures.refused
