use Rattle.std.proofs.Common.{ap}
use Rattle.std.specs.Str.{chars}
use Rattle.json5_grammar.specs.declared.error_code.ErrorCode.TheVariants.{InvalidEscapeSequence}
use Rattle.json5_tokens.specs.Outcome.{outcome}
use Rattle.json5_tokens.proofs.ScanEscapes.{refused_here}
use Rattle.json5_tokens.proofs.ScanTexts.{escape_none, escape_other, escape_unicode}
use Rattle.json5_tokens.proofs.names.read_name_escape.Goals as goal

pub returns-in_default : goal.returns-in_default
returns-in_default c = record { refused = ap outcome (escape_none _ _ c.in_default.ensures); known = tt }

pub returns-then-c-ne117 : goal.returns-then-c-ne117
returns-then-c-ne117 c = record { refused = refused_here _ InvalidEscapeSequence c.args.after.now c.utf8.after (escape_other c.in-Some.c _ _ _ c.in-Some.ensures.chars c.if-c-ne117.true); known = tt }

pub returns : goal.returns
returns c = rw (escape_unicode c.in-Some.c (chars c.args.escape.now) (chars c.args.after.now) (chars c.in-Some.digits.now) c.in-Some.ensures.chars c.if-c-ne117.false) c.unicode_escape.ensures
