use Rattle.json5_settings.proofs.SlipsSeen.{if_ok_then}
use Rattle.json5_settings.proofs.blanks.mean_the_same.Goals as goal

pub returns-in-Ok : goal.returns-in-Ok
returns-in-Ok c = if_ok_then c.means.result c.means.ensures (λ is h yes. (_, c.in-Ok.ensures.sound, h yes))
