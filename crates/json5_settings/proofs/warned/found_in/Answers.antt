use Rattle.json5_settings.proofs.WarningsTold.{all_warned}
use Rattle.json5_settings.proofs.warned.found_in.Goals as goal

pub returns : goal.returns
returns c = all_warned c.args.text.now c.full.result c.new-found.result.items _ c.utf8.text c.full.ensures c.new-walk.ensures c.in_ok-gap.ensures.taken c.new-found.ensures.items c.in_ok-look.ensures c.in_ok-finish.ensures.walked
