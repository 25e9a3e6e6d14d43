use Rattle.std.proofs.Common.{[], ◌∙◌}
use Rattle.json5_tokens.proofs.ShortEscapes.{digits_there, four_digits, unicode_found}
use Rattle.json5_tokens.proofs.escapes.short_unicode.Goals as goal

pub split_at-requires : goal.split_at-requires
split_at-requires c =
    let known = digits_there c.args.text.now _ _ _ _ _ c.as_bytes-bytes.ensures.value c.if-bytes-lt4.false c.if-first-gt15.false c.digit_of-first.ensures c.if-second-gt15.false c.digit_of-second.ensures
    c.if-third-gt15.false c.digit_of-third.ensures c.if-fourth-gt15.false c.digit_of-fourth.ensures in
    (four_digits [] c.args.text.now c.utf8.text known.digits).cut

pub returns : goal.returns
returns c =
    let known = digits_there c.args.text.now _ _ _ _ _ c.as_bytes-bytes.ensures.value c.if-bytes-lt4.false c.if-first-gt15.false c.digit_of-first.ensures c.if-second-gt15.false c.digit_of-second.ensures
    c.if-third-gt15.false c.digit_of-third.ensures c.if-fourth-gt15.false c.digit_of-fourth.ensures in
    let code = c.in_ok-spelled.ensures.value in
    unicode_found c.args.text.now c.split_at.result.1.now c.in_ok-spelled.spelled c.utf8.text known.digits (code.1 ∙ known.same) (rw code.1 code.0) c.split_at.ensures.back
