use Rattle.std.proofs.Common.{Some, ap, refl, ◌∙◌}
use Rattle.json5_write.proofs.TextsWhole.{put_utf8}
use Rattle.json5_styles.specs.JsonTexts.{json_string}
use Rattle.std.specs.Str.{chars}
use Rattle.json5_styles.proofs.TextsReturned.{string_spelled, string_refused}
use Rattle.json5_styles.proofs.whole_texts.to_json_string.Goals as goal

pub text_of-requires : goal.text_of-requires
text_of-requires c = put_utf8 _ _ _ c.into_bytes.result.items _ (rw c.within-printer.ensures at c.put_string-put.ensures) (rw c.new.ensures refl) (ap Some c.into_bytes.ensures ∙ c.into_inner.ensures)

pub returns-clause-spelled : goal.returns-clause-spelled
returns-clause-spelled c = string_spelled (json_string (chars c.args.text.now)) _ _ c.into_bytes.result.items _ c.text_of.result (rw c.within-printer.ensures at c.put_string-put.ensures) (rw c.new.ensures refl) (ap Some c.into_bytes.ensures ∙ c.into_inner.ensures) c.text_of.ensures.text

pub returns-clause-refused : goal.returns-clause-refused
returns-clause-refused c = string_refused (json_string (chars c.args.text.now)) _ _ _ c.text_of.result refl (rw c.within-printer.ensures at c.put_string-put.ensures) c.text_of.ensures.refused
