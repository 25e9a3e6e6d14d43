use Rattle.std.proofs.Common.{subst}
use Rattle.json5_tokens.specs.ShortWords.{TakesShortWord}
use Rattle.json5_read.proofs.WordCharacters.{chars_null, chars_true, chars_false}
use Rattle.json5_read.proofs.kinds.short_literal.Goals as goal

pub returns-in-Null : goal.returns-in-Null
returns-in-Null g c = rw c.in-Null.is (subst (λ w. TakesShortWord w c.args.scanner.now c.short_word.new.self c.short_word.result) chars_null c.short_word.ensures)

pub returns-in-True : goal.returns-in-True
returns-in-True g c = rw c.in-True.is (subst (λ w. TakesShortWord w c.args.scanner.now c.short_word-in-True.new.self c.short_word-in-True.result) chars_true c.short_word-in-True.ensures)

pub returns-in-False : goal.returns-in-False
returns-in-False g c = rw c.in-False.is (subst (λ w. TakesShortWord w c.args.scanner.now c.short_word-in-False.new.self c.short_word-in-False.result) chars_false c.short_word-in-False.ensures)
