use Rattle.json5_convert.proofs.AnewSteps.{string_at}
use Rattle.json5_convert.proofs.spelled_anew.split_string.Goals as goal

pub returns : goal.returns
returns c = string_at c.args.text.now c.rest_of-rest.result.now c.new-scanner.result c.string.new.self c.in_ok-string.string c.utf8.text c.new-scanner.ensures c.in_ok-string.ensures.taken c.rest_of-rest.ensures c.in_ok-check_ended.ensures
