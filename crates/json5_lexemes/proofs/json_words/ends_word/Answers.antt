use Rattle.std.proofs.Common.{refl, arith}
use Rattle.json5_lexemes.proofs.DocumentLexemes.{sign_no_part}
use Rattle.json5_lexemes.proofs.PlainFronts.{word_ended, end_ended, same_by}
use Rattle.json5_lexemes.proofs.json_words.ends_word.Goals as goal

pub returns-then-is_empty : goal.returns-then-is_empty
returns-then-is_empty c = λ t. end_ended _ _ c.as_bytes-bytes.ensures.value c.if-is_empty.ensures

pub returns-then-bytes-eq44 : goal.returns-then-bytes-eq44
returns-then-bytes-eq44 c = λ t. word_ended _ _ 44 c.utf8.text c.as_bytes-bytes.ensures.value c.if-is_empty.ensures c.if-bytes-eq44.true (omega arith) refl

pub returns-then-bytes-eq93 : goal.returns-then-bytes-eq93
returns-then-bytes-eq93 c = λ t. word_ended _ _ 93 c.utf8.text c.as_bytes-bytes.ensures.value c.if-is_empty.ensures c.if-bytes-eq93.true (omega arith) (sign_no_part 93 refl)

pub returns-then-bytes-eq10 : goal.returns-then-bytes-eq10
returns-then-bytes-eq10 c = λ t. word_ended _ _ 10 c.utf8.text c.as_bytes-bytes.ensures.value c.if-is_empty.ensures c.if-bytes-eq10.true (omega arith) refl

pub returns : goal.returns
returns c = λ t. word_ended _ _ 125 c.utf8.text c.as_bytes-bytes.ensures.value c.if-is_empty.ensures (same_by _ 125 t) (omega arith) (sign_no_part 125 refl)
