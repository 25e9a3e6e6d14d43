use Rattle.json5_convert.proofs.AnewSteps.{number_at}
use Rattle.json5_convert.proofs.spelled_anew.split_number.Goals as goal

pub returns : goal.returns
returns c = number_at c.args.text.now c.rest_of-rest.result.now c.new-scanner.result c.number.new.self c.in_ok-number.number c.new-scanner.ensures c.in_ok-number.ensures.taken c.rest_of-rest.ensures c.in_ok-check_ended.ensures
