use Rattle.std.proofs.Common.{sym, ap, ◌∙◌, arith}
use Rattle.json5_grammar.specs.Language.Characters.{is_start_category}
use Rattle.json5_tokens.proofs.AsciiNames.{ascii_start, start_past}
use Rattle.json5_tokens.proofs.char.is_json5_identifier_start.Goals as goal

pub returns-then-c-lt128 : goal.returns-then-c-lt128
returns-then-c-lt128 c = c.is_ascii_start.ensures ∙ sym (ascii_start c.args.c c.if-c-lt128.true)

pub returns : goal.returns
returns c = c.is_start_category.ensures ∙ ap is_start_category c.for_char.ensures ∙ sym (start_past c.args.c (omega (arith, c.if-c-lt128.false)))
