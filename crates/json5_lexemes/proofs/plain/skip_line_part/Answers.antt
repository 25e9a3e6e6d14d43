use Rattle.std.proofs.Common.{◌∙◌, ap}
use Rattle.std.specs.List.{prefix_len}
use Rattle.json5_tokens.specs.ByteRuns.{is_in_line, is_line_part}
use Rattle.json5_tokens.proofs.RunBoundaries.{stop_boundary, stop_skips, line_chars}
use Rattle.json5_lexemes.proofs.plain.skip_line_part.Goals as goal

pub split_at-requires : goal.split_at-requires
split_at-requires c = stop_boundary is_in_line is_line_part _ _ line_chars c.utf8.text (c.line_len.ensures ∙ ap (prefix_len is_in_line) c.as_bytes.ensures.value)

pub returns : goal.returns
returns c =
    stop_skips is_in_line is_line_part _ _ _ line_chars c.utf8.text (c.line_len.ensures ∙ ap (prefix_len is_in_line) c.as_bytes.ensures.value) c.split_at.ensures.back
