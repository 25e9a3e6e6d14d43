use Rattle.std.proofs.Common.{ap, ◌∙◌}
use Rattle.std.specs.List.{prefix_len}
use Rattle.json5_edit.specs.PathTexts.{is_in_name}
use Rattle.json5_edit.proofs.PathsRead.{name_boundary, name_split}
use Rattle.json5_edit.proofs.path_texts.dotted.split_name.Goals as goal

pub split_at-requires : goal.split_at-requires
split_at-requires c = name_boundary c.args.text.now c.name_len.result c.utf8.text (c.name_len.ensures ∙ ap (prefix_len is_in_name) c.as_bytes.ensures.value)

pub returns : goal.returns
returns c = name_split c.args.text.now _ _ c.name_len.result (c.name_len.ensures ∙ ap (prefix_len is_in_name) c.as_bytes.ensures.value) c.split_at.ensures.front c.split_at.ensures.back
