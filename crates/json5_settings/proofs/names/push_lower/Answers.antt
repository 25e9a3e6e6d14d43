use Rattle.std.proofs.Common.{◌∙◌, ◌++◌, ap, sym}
use Rattle.std.specs.Prelude.{string_bytes}
use Rattle.std.specs.Char.{encode_utf8, to_ascii_lowercase}
use Rattle.std.specs.Str.{chars}
use Rattle.std.proofs.lemmas.Str.{IsUtf8-string_bytes, chars-append}
use Rattle.json5_settings.proofs.WordsParted.{lowered_none, lowered_one, one_char, scalar_lower}
use Rattle.json5_settings.proofs.names.push_lower.Goals as goal

pub returns-then-is_dropped : goal.returns-then-is_dropped
returns-then-is_dropped c = lowered_none c.args.with_marks c.args.c (chars (string_bytes c.args.text.now)) (sym c.is_dropped.ensures ∙ c.if-is_dropped.true)

pub returns : goal.returns
returns c =
    let old = c.args.text.now in
    ap chars c.in_ok-push.ensures.bytes ∙ chars-append (string_bytes old) (encode_utf8 c.to_ascii_lowercase.result) (IsUtf8-string_bytes old)
    ∙ ap (λ d. chars (string_bytes old) ++ chars (encode_utf8 d)) c.to_ascii_lowercase.ensures.value
    ∙ ap (λ z. chars (string_bytes old) ++ z) (one_char (to_ascii_lowercase c.args.c) (scalar_lower c.args.c c.ranges.c.0))
    ∙ lowered_one c.args.with_marks c.args.c (chars (string_bytes old)) (sym c.is_dropped.ensures ∙ c.if-is_dropped.false)
