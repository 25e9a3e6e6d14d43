use Rattle.std.proofs.Common.{refl, rules}
use Rattle.json5_tokens.proofs.ShortSteps.{in_front, none_in_front}
use Rattle.json5_tokens.proofs.blanks.is_in_front.Goals as goal

pub returns-then-not-is_empty : goal.returns-then-not-is_empty
returns-then-not-is_empty c = in_front c.args.sign c.args.text.now _ _ c.requires c.utf8.text c.as_bytes-bytes.ensures.value (search rules) refl

pub returns-else-not-is_empty : goal.returns-else-not-is_empty
returns-else-not-is_empty c = rw c.if-not-is_empty.false (none_in_front c.args.sign c.args.text.now c.requires c.utf8.text (search rules))
