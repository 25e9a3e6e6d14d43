use Rattle.std.proofs.Common.{◌∙◌}
use Rattle.json5_settings.proofs.WarningsTold.{slip_told}
use Rattle.json5_settings.proofs.warned.look_at.Goals as goal

pub returns : goal.returns
returns c =
    slip_told c.text.result.now c.in-Some.spelled.now c.offset-offset.result c.offset.result c.in-Some-slip_of.slip c.args.found.now.items _ c.in_ok-skip.ensures.passed (c.text.ensures ∙ c.in_ok-skip.ensures.passed.text) c.offset-offset.ensures c.offset.ensures c.in-Some.ensures.cases.0
    c.in-Some-slip_of.ensures c.in_ok-push.ensures.items
