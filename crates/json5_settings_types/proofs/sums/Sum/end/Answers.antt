use Rattle.std.proofs.Common.{arith, rules}
use Rattle.std.proofs.lemmas.Bool.Decides.{nat_tests}
use Rattle.json5_settings_types.proofs.SumsRead.{ends, goes_past}
use Rattle.json5_settings_types.proofs.sums.Sum.end.Goals as goal

pub returns-then-is_empty : goal.returns-then-is_empty
returns-then-is_empty c = ends c.args.self.total c.args.self.rest.now (grind (arith, nat_tests, c.if-is_empty.ensures)) (search rules)

pub returns-else-is_empty : goal.returns-else-is_empty
returns-else-is_empty c = goes_past c.args.self.total c.args.self.rest.now (grind (arith, nat_tests, c.if-is_empty.ensures))
