use Rattle.std.proofs.Common.{ap, ◌∙◌}
use Rattle.std.specs.Str.{chars}
use Rattle.json5_grammar.specs.Faults.Positions.{position_after}
use Rattle.json5_settings.proofs.Told.{front_of, no_front}
use Rattle.json5_settings.proofs.positions.position_of.Goals as goal

pub returns-in-Some : goal.returns-in-Some
returns-in-Some c = λ at. c.after.ensures ∙ ap (λ z. position_after (chars z)) (front_of c.args.text.now c.in-Some.front.now c.args.offset c.in-Some.ensures.cases.0)

pub returns-in-None : goal.returns-in-None
returns-in-None c = λ at. no_front c.args.text.now c.args.offset c.utf8.text at c.in-None.ensures.cases
