use Rattle.std.proofs.Common.{◌∙◌, ap}
use Rattle.std.specs.List.{prefix_len}
use Rattle.json5_tokens.specs.ByteRuns.{is_ascii_part}
use Rattle.json5_tokens.proofs.AsciiNames.{parts_counted, parts_ascii, parts_passed}
use Rattle.json5_types.proofs.AsciiRuns.{front_boundary}
use Rattle.json5_tokens.proofs.names.skip_ascii_parts.Goals as goal

pub split_at-requires : goal.split_at-requires
split_at-requires c =
    front_boundary is_ascii_part c.args.text.now _ parts_ascii c.utf8.text (parts_counted c.args.text.now _ (c.name_len-len.ensures ∙ ap (prefix_len is_ascii_part) c.as_bytes.ensures.value))

pub returns : goal.returns
returns c =
    parts_passed c.args.text.now _ _ (parts_counted c.args.text.now _ (c.name_len-len.ensures ∙ ap (prefix_len is_ascii_part) c.as_bytes.ensures.value)) c.split_at.ensures.back
