use Rattle.std.proofs.Common.{sym}
use Rattle.json5_schema.proofs.patterns.Pattern.is_match.Goals as goal

pub returns : goal.returns
returns c = rw (c.is_match.ensures.found, c.in_ok-matcher.ensures.pattern) (sym (c.args.self.now.meant c.args.text.now (λ k. (c.type_inv.text k).fits)))
