use Rattle.std.proofs.Common.{sym, arith}
use Rattle.std.proofs.lemmas.Bool.Decides.{nat_tests}
use Rattle.json5_grammar.proofs.BlanksRead.{printable_no_blank}
use Rattle.json5_tokens.proofs.char.is_json5_whitespace.Goals as goal

pub returns-then-c-le126 : goal.returns-then-c-le126
returns-then-c-le126 c = sym (printable_no_blank c.args.c (grind (arith, nat_tests, c.if-c-ge33.true, c.if-c-le126.true)))
