use Rattle.std.proofs.Common.{◌∙◌, ap, rules}
use Rattle.std.specs.List.{prefix_len}
use Rattle.json5_tokens.proofs.RunBoundaries.{stop_boundary, stop_skips}
use Rattle.json5_write.specs.EscapeFree.{is_escape_free_byte, is_escape_free}
use Rattle.json5_write.proofs.EscapeFreeRuns.{escape_free_chars}
use Rattle.json5_write.proofs.escape_free.skip_escape_free.Goals as goal

pub split_at-requires : goal.split_at-requires
split_at-requires c =
    stop_boundary is_escape_free_byte is_escape_free c.args.text.now _ escape_free_chars c.utf8.text (c.escape_free_len-end.ensures ∙ ap (prefix_len is_escape_free_byte) c.as_bytes.ensures.value)

pub returns : goal.returns
returns c = record {
  skips = stop_skips is_escape_free_byte is_escape_free c.args.text.now _ _ escape_free_chars c.utf8.text (c.escape_free_len-end.ensures ∙ ap (prefix_len is_escape_free_byte) c.as_bytes.ensures.value) c.split_at.ensures.back;
  utf8 = search rules;
}
