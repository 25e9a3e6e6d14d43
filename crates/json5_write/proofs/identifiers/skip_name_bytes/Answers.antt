use Rattle.std.proofs.Common.{◌∙◌, ap, rules}
use Rattle.std.specs.List.{prefix_len}
use Rattle.json5_write.specs.NameBytes.{is_name_byte}
use Rattle.json5_types.proofs.AsciiRuns.{counted, front_boundary}
use Rattle.json5_write.proofs.NamesFound.{name_ascii, name_bytes}
use Rattle.json5_write.proofs.identifiers.skip_name_bytes.Goals as goal

pub split_at-requires : goal.split_at-requires
split_at-requires c =
    front_boundary is_name_byte c.args.text.now _ name_ascii c.utf8.text (counted is_name_byte c.args.text.now _ (c.name_len-len.ensures ∙ ap (prefix_len is_name_byte) c.as_bytes.ensures.value))

pub returns : goal.returns
returns c = record {
  same = name_bytes c.args.text.now _ _ (counted is_name_byte c.args.text.now _ (c.name_len-len.ensures ∙ ap (prefix_len is_name_byte) c.as_bytes.ensures.value)) c.split_at.ensures.back;
  utf8 = search rules;
}
