use Rattle.std.proofs.Common.{rules, sym, ◌∙◌, arith}
use Rattle.json5_tokens.proofs.AsciiNames.{ascii_part, part_past}
use Rattle.json5_tokens.proofs.char.is_json5_identifier.Goals as goal

pub returns-then-c-lt128 : goal.returns-then-c-lt128
returns-then-c-lt128 c = c.is_ascii_part.ensures ∙ sym (ascii_part c.args.c c.if-c-lt128.true)

pub returns-then-matches : goal.returns-then-matches
returns-then-matches c = let k = part_past c.args.c (omega (arith, c.if-c-lt128.false)) in rw k (search rules)

pub returns-else-matches : goal.returns-else-matches
returns-else-matches c = let k = part_past c.args.c (omega (arith, c.if-c-lt128.false)) in rw k (search rules)
