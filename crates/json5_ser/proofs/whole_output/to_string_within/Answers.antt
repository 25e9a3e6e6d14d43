use Rattle.std.proofs.Common.{Some, ap, refl, ◌∙◌}
use Rattle.json5_write.proofs.TextsWhole.{put_utf8, text_returned, refusal_returned}
use Rattle.json5_write.proofs.WrittenDepths.{text_documents}
use Rattle.json5_ser.proofs.whole_output.to_string_within.Goals as goal

pub text_of-requires : goal.text_of-requires
text_of-requires g c = put_utf8 _ _ _ c.into_bytes.result.items _ (rw c.within-printer.ensures at c.put-printed.ensures) (rw c.new.ensures refl) (ap Some c.into_bytes.ensures ∙ c.into_inner.ensures ∙ ap (λ s. s.known) c.ser.view_is)

pub returns-clause-whole : goal.returns-clause-whole
returns-clause-whole g c =
    text_returned _ _ _ c.into_bytes.result.items _ _ (rw c.within-printer.ensures at c.put-printed.ensures) (rw c.new.ensures refl) (ap Some c.into_bytes.ensures ∙ c.into_inner.ensures ∙ ap (λ s. s.known) c.ser.view_is) c.text_of.ensures.text

pub returns-clause-refused : goal.returns-clause-refused
returns-clause-refused g c = refusal_returned _ _ _ _ _ refl (rw c.within-printer.ensures at c.put-printed.ensures) c.text_of.ensures.refused

pub returns-clause-reads_back : goal.returns-clause-reads_back
returns-clause-reads_back g c = text_documents c.args.limit (g.T.Serialize.tree c.args.value.now) _ (returns-clause-whole g c)
