use Rattle.std.specs.Str.{chars}
use Rattle.json5_tokens.proofs.NumberCases.{number_signed}
use Rattle.json5_tokens.proofs.numbers.scan.Goals as goal

pub returns : goal.returns
returns c = rw (number_signed (chars c.args.text.now) (chars c.split_sign-negative.result.1.now) c.split_sign-negative.result.0 c.split_sign-negative.ensures.sign) c.read_unsigned.ensures
