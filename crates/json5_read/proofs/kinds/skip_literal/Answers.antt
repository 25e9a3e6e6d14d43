use Rattle.std.proofs.Common.{subst}
use Rattle.json5_grammar.specs.declared.error_code.ErrorCode.TheVariants as codes
use Rattle.json5_tokens.specs.TokenCalls.{TakesWord}
use Rattle.json5_read.proofs.WordCharacters.{chars_null, chars_true, chars_false}
use Rattle.json5_read.proofs.kinds.skip_literal.Goals as goal

pub returns-then-short_literal : goal.returns-then-short_literal
returns-then-short_literal g c = record { taken = c.if-short_literal.ensures; refused = tt; kept = tt }

pub returns-in-Null : goal.returns-in-Null
returns-in-Null g c = rw (c.in-Null.is, ← c.if-short_literal.ensures) (subst (λ w. TakesWord w codes.EofParsingNull codes.ExpectedNull c.short_literal.new.scanner c.word.new.self c.word.result) chars_null c.word.ensures)

pub returns-in-True : goal.returns-in-True
returns-in-True g c = rw (c.in-True.is, ← c.if-short_literal.ensures) (subst (λ w. TakesWord w codes.EofParsingBool codes.ExpectedBool c.short_literal.new.scanner c.word-in-True.new.self c.word-in-True.result) chars_true c.word-in-True.ensures)

pub returns-in-False : goal.returns-in-False
returns-in-False g c = rw (c.in-False.is, ← c.if-short_literal.ensures) (subst (λ w. TakesWord w codes.EofParsingBool codes.ExpectedBool c.short_literal.new.scanner c.word-in-False.new.self c.word-in-False.result) chars_false c.word-in-False.ensures)
