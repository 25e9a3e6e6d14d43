use Rattle.std.proofs.Common.{sym, ◌∙◌}
use Rattle.json5_types.specs.ValueMeanings.{value_of}
use Rattle.json5_styles.proofs.Refusals.{both_true, refused}
use Rattle.json5_styles.proofs.TextsBack.{json_reads, json_is}
use Rattle.json5_styles.proofs.TextsReturned.{written_json}
use Rattle.json5_styles.proofs.whole_texts.to_json_in.Goals as goal

pub text_in-requires : goal.text_in-requires
text_in-requires c = (both_true _ _ (sym c.can_be_written.ensures ∙ c.if-not-can_be_written.false)).0

pub returns-then-not-can_be_written : goal.returns-then-not-can_be_written
returns-then-not-can_be_written c = refused _ _ _ (sym c.can_be_written.ensures ∙ c.if-not-can_be_written.true) c.json_fault.ensures

pub returns : goal.returns
returns c =
    let x = value_of c.args.value.now in
    let fine = both_true _ _ (sym c.can_be_written.ensures ∙ c.if-not-can_be_written.false) in
    let put = c.text_in.ensures in
    written_json _ x _ fine.0 fine.1 put.text (json_is c.args.layout x _ put.text put.numbers fine.1) (json_reads c.args.layout x _ put.text put.numbers)
