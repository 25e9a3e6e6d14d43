use Rattle.json5_types.proofs.InlineDigits.{each_left, each_right}
use Rattle.json5_types.proofs.decimal.keep_few.Goals as goal

pub new-requires-clause-first : goal.new-requires-clause-first
new-requires-clause-first c = each_left c.args.first.now c.args.last.now c.requires.digits

pub new-requires-clause-last : goal.new-requires-clause-last
new-requires-clause-last c = each_right c.args.first.now c.args.last.now c.requires.digits
