use Rattle.std.proofs.Common.{arith}
use Rattle.std.specs.Str.{chars}
use Rattle.json5_grammar.specs.declared.error_code.ErrorCode.TheVariants.{InvalidEscapeSequence}
use Rattle.json5_tokens.proofs.ScanEscapes.{refused_here, digit_escape}
use Rattle.json5_tokens.proofs.escapes.long_escape.Goals as goal

pub returns-in-1-to-9 : goal.returns-in-1-to-9
returns-in-1-to-9 c =
    rw c.invalid.ensures
    (record { refused = refused_here _ InvalidEscapeSequence c.args.escape.now c.utf8.escape (digit_escape c.args.c (chars c.args.escape.now) (chars c.args.text.now) (omega arith) (omega arith)); known = tt })
