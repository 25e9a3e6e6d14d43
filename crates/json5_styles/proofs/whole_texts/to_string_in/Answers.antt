use Rattle.std.proofs.Common.{true, refl, sym, ◌∙◌, rules}
use Rattle.json5_types.specs.ValueLookups.{fits}
use Rattle.json5_types.specs.ValueMeanings.{value_of}
use Rattle.json5_styles.proofs.Refusals.{both_true, one_false}
use Rattle.json5_styles.proofs.TextsBack.{laid_reads}
use Rattle.json5_styles.proofs.whole_texts.to_string_in.Goals as goal

pub returns-clause-reads_back : goal.returns-clause-reads_back
returns-clause-reads_back c = laid_reads c.args.layout (value_of c.args.value.now) _ c.text_in.ensures.text c.text_in.ensures.numbers

pub text_in-requires : goal.text_in-requires
text_in-requires c = (both_true _ _ (sym c.can_be_written.ensures ∙ c.if-not-can_be_written.false)).0

pub returns-then-not-can_be_written-clause-text : goal.returns-then-not-can_be_written-clause-text
returns-then-not-can_be_written-clause-text c =
    let deep = one_false (fits (value_of c.args.value.now)) true (sym c.can_be_written.ensures ∙ c.if-not-can_be_written.true) refl in
    rw deep (search rules)
