use Rattle.std.proofs.Common.{◌∙◌, ap}
use Rattle.std.specs.List.{prefix_len}
use Rattle.json5_styles.specs.Json.{is_json_blank}
use Rattle.json5_lexemes.proofs.PlainRuns.{blank_is_ascii, ascii_boundary, ascii_skips}
use Rattle.json5_lexemes.proofs.SharedSteps.{blanks_passed, no_blanks}
use Rattle.json5_lexemes.proofs.shared.past_blanks.Goals as goal

pub returns-then-is_empty : goal.returns-then-is_empty
returns-then-is_empty c = no_blanks c.args.text.now

pub split_at-requires : goal.split_at-requires
split_at-requires c = ascii_boundary is_json_blank _ _ blank_is_ascii c.utf8.text (c.blanks_len.ensures ∙ ap (prefix_len is_json_blank) c.as_bytes-bytes.ensures.value)

pub returns : goal.returns
returns c =
    blanks_passed c.args.text.now c.split_at.result.1.now
    (ascii_skips is_json_blank _ _ _ blank_is_ascii c.utf8.text (c.blanks_len.ensures ∙ ap (prefix_len is_json_blank) c.as_bytes-bytes.ensures.value) c.split_at.ensures.back)
