use Rattle.json5_types.specs.ValueMeanings.{value_of}
use Rattle.cli_edit.proofs.PartsRead.{json_none}
use Rattle.cli_edit.proofs.parts.told.Goals as goal

pub returns-in-Err-clause-refused : goal.returns-in-Err-clause-refused
returns-in-Err-clause-refused c = rw c.in-Json.is (json_none (value_of c.args.value.now) c.in-Err.error c.no_json.result c.in-Err.ensures c.no_json.ensures)
