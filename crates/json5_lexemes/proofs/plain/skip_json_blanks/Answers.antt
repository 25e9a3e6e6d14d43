use Rattle.std.proofs.Common.{◌∙◌, ap}
use Rattle.std.specs.List.{prefix_len}
use Rattle.json5_styles.specs.Json.{is_json_blank}
use Rattle.json5_lexemes.proofs.PlainRuns.{blank_is_ascii, ascii_boundary, ascii_skips}
use Rattle.json5_lexemes.proofs.plain.skip_json_blanks.Goals as goal

pub split_at-requires : goal.split_at-requires
split_at-requires c = ascii_boundary is_json_blank _ _ blank_is_ascii c.utf8.text (c.blanks_len.ensures ∙ ap (prefix_len is_json_blank) c.as_bytes.ensures.value)

pub returns : goal.returns
returns c =
    ascii_skips is_json_blank _ _ _ blank_is_ascii c.utf8.text (c.blanks_len.ensures ∙ ap (prefix_len is_json_blank) c.as_bytes.ensures.value) c.split_at.ensures.back
