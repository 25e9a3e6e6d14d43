use Rattle.std.proofs.Common.{Some, ap, refl, ◌∙◌}
use Rattle.json5_types.specs.ValueMeanings.{value_of}
use Rattle.json5_write.proofs.TextsWhole.{put_utf8}
use Rattle.json5_styles.specs.Layouts.{laid_in}
use Rattle.json5_styles.proofs.TextsReturned.{laid_returned, numbers_returned}
use Rattle.json5_styles.proofs.whole_texts.text_in.Goals as goal

pub text_of-requires : goal.text_of-requires
text_of-requires c = put_utf8 _ _ _ c.into_bytes.result.items _ (rw c.within-printer.ensures at c.put_value-printed.ensures.text) (rw c.new.ensures refl) (ap Some c.into_bytes.ensures ∙ c.into_inner.ensures)

pub returns-clause-text : goal.returns-clause-text
returns-clause-text c =
    let x = value_of c.args.value.now in
    laid_returned (laid_in c.args.form 0 x) x _ _ c.into_bytes.result.items _ c.text_of.result c.requires refl (rw c.within-printer.ensures at c.put_value-printed.ensures.text) (rw c.new.ensures refl) (ap Some c.into_bytes.ensures ∙ c.into_inner.ensures) c.text_of.ensures.text c.text_of.ensures.refused

pub returns-clause-numbers : goal.returns-clause-numbers
returns-clause-numbers c = λ ok. numbers_returned _ _ c.put_value-printed.result c.text_of.result c.text_of.ensures.text c.put_value-printed.ensures.numbers ok
