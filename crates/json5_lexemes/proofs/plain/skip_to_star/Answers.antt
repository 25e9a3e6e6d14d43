use Rattle.std.proofs.Common.{◌∙◌, ap}
use Rattle.std.specs.List.{prefix_len}
use Rattle.json5_tokens.specs.ByteRuns.{is_no_star}
use Rattle.json5_tokens.proofs.RunBoundaries.{stop_boundary, stop_skips, star_chars}
use Rattle.json5_lexemes.proofs.plain.skip_to_star.Goals as goal

pub split_at-requires : goal.split_at-requires
split_at-requires c = stop_boundary is_no_star is_no_star _ _ star_chars c.utf8.text (c.star_offset.ensures ∙ ap (prefix_len is_no_star) c.as_bytes.ensures.value)

pub returns : goal.returns
returns c =
    stop_skips is_no_star is_no_star _ _ _ star_chars c.utf8.text (c.star_offset.ensures ∙ ap (prefix_len is_no_star) c.as_bytes.ensures.value) c.split_at.ensures.back
