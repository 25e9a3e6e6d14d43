use Rattle.std.proofs.Common.{refl, sym}
use Rattle.std.specs.Prelude.{slice_index}
use Rattle.json5_lexemes.proofs.PlainFronts.{word_ended, end_ended}
use Rattle.json5_lexemes.proofs.SharedSteps.{ends_small, ends_no_part}
use Rattle.json5_lexemes.proofs.shared.ends_word.Goals as goal

pub returns-then-is_empty : goal.returns-then-is_empty
returns-then-is_empty c = λ t. end_ended _ _ c.as_bytes-bytes.ensures.value c.if-is_empty.ensures

pub returns-then-ends_words : goal.returns-then-ends_words
returns-then-ends_words c = λ t.
    let first = slice_index c.as_bytes-bytes.result.now 0 in
    let is = sym c.if-ends_words.ensures in
    word_ended c.args.text.now c.as_bytes-bytes.result.now first c.utf8.text c.as_bytes-bytes.ensures.value c.if-is_empty.ensures refl (ends_small first is) (ends_no_part first is)
