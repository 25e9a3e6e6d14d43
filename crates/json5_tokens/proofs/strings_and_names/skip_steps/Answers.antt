use Rattle.json5_tokens.proofs.ShortEscapes.{steps_on}
use Rattle.json5_tokens.proofs.strings_and_names.skip_steps.Goals as goal

pub returns-in-Escape : goal.returns-in-Escape
returns-in-Escape c =
    let more = c.skip_escapes.ensures in
    steps_on c.args.kind c.in-Escape.kind c.args.escape.now c.args.after.now more.0 c.skip_escapes.result.now c.in-Escape.escape c.in-Escape.field-2 c.in_ok-step.step c.read_stop.result c.in_ok-step.ensures c.in-Escape.is more.1 c.read_stop.ensures
