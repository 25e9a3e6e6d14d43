use Rattle.std.proofs.Common.{◌∙◌}
use Rattle.json5_read.proofs.owned_tokens.own_text.Goals as goal

pub returns-in-Ok : goal.returns-in-Ok
returns-in-Ok g c u k = c.in-Ok.ensures.ok ∙ c.text_of_span.ensures u k

pub returns-in-Err : goal.returns-in-Err
returns-in-Err g c = record { kind = c.leave_code.ensures.kind; place = c.leave_code.ensures.place }
