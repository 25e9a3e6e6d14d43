use Rattle.std.proofs.Common.{Some, ap, refl, ◌∙◌}
use Rattle.json5_write.proofs.TextsWhole.{put_utf8, text_returned, refusal_returned}
use Rattle.json5_write.proofs.whole_values.to_string.Goals as goal

pub text_of-requires : goal.text_of-requires
text_of-requires c = put_utf8 _ _ _ c.into_bytes.result.items _ (rw c.within-printer.ensures at c.put_value-printed.ensures) (rw c.new.ensures refl) (ap Some c.into_bytes.ensures ∙ c.into_inner.ensures)

pub returns-clause-whole : goal.returns-clause-whole
returns-clause-whole c =
    text_returned _ _ _ c.into_bytes.result.items _ _ (rw c.within-printer.ensures at c.put_value-printed.ensures) (rw c.new.ensures refl) (ap Some c.into_bytes.ensures ∙ c.into_inner.ensures) c.text_of.ensures.text

pub returns-clause-refused : goal.returns-clause-refused
returns-clause-refused c = refusal_returned _ _ _ _ _ refl (rw c.within-printer.ensures at c.put_value-printed.ensures) c.text_of.ensures.refused
