use Rattle.json5_serde_write.proofs.Pens.{kinds_kept}
use Rattle.json5_serde_write.proofs.pen.keep_inner.Goals as goal

pub returns-clause-kept : goal.returns-clause-kept
returns-clause-kept c = kinds_kept c.args.inner c.in-Some.bracket c.args.outer.now.items _ c.in-Some.is c.in_ok-push.ensures.items
