use Rattle.std.specs.Str.{chars}
use Rattle.json5_settings.specs.Stacks.{IsDocument}
use Rattle.json5_settings.proofs.MembersMade.{judged}
use Rattle.json5_settings.proofs.members.is_document.Goals as goal

pub returns-in-Err : goal.returns-in-Err
returns-in-Err c = judged (chars c.args.text.now) (IsDocument c.args.text.now) c.in-Err.error c.is_refused.result c.in-Err.ensures.complete c.is_refused.ensures
