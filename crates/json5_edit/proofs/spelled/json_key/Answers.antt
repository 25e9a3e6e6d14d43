use Rattle.json5_edit.proofs.KeysSpelled.{json_key_spelled, json_key_plain}
use Rattle.json5_edit.proofs.spelled.json_key.Goals as goal

pub returns-in-Ok-clause-spelled : goal.returns-in-Ok-clause-spelled
returns-in-Ok-clause-spelled c = json_key_spelled c.args.key.now _ c.utf8.key c.in-Ok.ensures.spelled

pub returns-in-Ok-clause-plain : goal.returns-in-Ok-clause-plain
returns-in-Ok-clause-plain c = json_key_plain c.args.key.now _ c.in-Ok.ensures.spelled
