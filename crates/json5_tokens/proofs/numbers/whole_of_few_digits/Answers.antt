use Rattle.json5_tokens.proofs.ShortWays.{few_given}
use Rattle.json5_tokens.proofs.numbers.whole_of_few_digits.Goals as goal

pub returns : goal.returns
returns c = rw c.from_i128.ensures (few_given c.args.text.now _ _ c.in_ok-number.ensures)
