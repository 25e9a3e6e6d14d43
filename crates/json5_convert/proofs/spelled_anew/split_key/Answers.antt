use Rattle.json5_convert.proofs.AnewSteps.{key_at}
use Rattle.json5_convert.proofs.spelled_anew.split_key.Goals as goal

pub returns : goal.returns
returns c = key_at c.args.text.now c.rest_of-rest.result.now c.new-scanner.result c.key.new.self c.in_ok-token.token c.borrowed_text_of.result c.utf8.text c.new-scanner.ensures c.in_ok-token.ensures.taken c.borrowed_text_of.ensures c.rest_of-rest.ensures c.in_ok-check_ended.ensures
