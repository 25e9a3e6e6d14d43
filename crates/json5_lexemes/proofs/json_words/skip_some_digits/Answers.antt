use Rattle.std.proofs.Common.{◌∙◌, ap}
use Rattle.std.specs.List.{prefix_len}
use Rattle.json5_grammar.specs.Language.Characters.{is_digit}
use Rattle.json5_types.proofs.AsciiRuns.{digit_is_ascii}
use Rattle.json5_lexemes.proofs.PlainRuns.{ascii_boundary, ascii_skips, none_in_front, some_in_front}
use Rattle.json5_lexemes.proofs.json_words.skip_some_digits.Goals as goal

pub returns-then-len-eq0 : goal.returns-then-len-eq0
returns-then-len-eq0 c = none_in_front is_digit _ _ digit_is_ascii c.utf8.text (c.digits_len-len.ensures ∙ ap (prefix_len is_digit) c.as_bytes.ensures.value) c.if-len-eq0.true

pub split_at-requires : goal.split_at-requires
split_at-requires c = ascii_boundary is_digit _ _ digit_is_ascii c.utf8.text (c.digits_len-len.ensures ∙ ap (prefix_len is_digit) c.as_bytes.ensures.value)

pub returns : goal.returns
returns c =
    let e = c.digits_len-len.ensures ∙ ap (prefix_len is_digit) c.as_bytes.ensures.value in
    (some_in_front is_digit _ _ digit_is_ascii e c.if-len-eq0.false, ascii_skips is_digit _ _ _ digit_is_ascii c.utf8.text e c.split_at.ensures.back)
