use Rattle.std.proofs.Common.{◌∙◌, refl}
use Rattle.std.proofs.lemmas.Result.{err_from_is_err_and}
use Rattle.json5_read.specs.Brackets.{brackets_of}
use Rattle.json5_read.proofs.FoundEntries.{found_after, refused_blanks, missed_comma, faulty_after}
use Rattle.json5_read.proofs.ModelSteps.{same_of}
use Rattle.json5_read.proofs.steps.advance_to_entry.Goals as goal

pub returns-in_err-skip_blank : goal.returns-in_err-skip_blank
returns-in_err-skip_blank g c =
    let (y, is, from) = err_from_is_err_and c.from_residual.result c.from_residual.ensures.1 in
    rw (is, from) (record { found = tt; refused = refused_blanks c.args.scanner.now c.in_err-skip_blank.field-0.0 c.in_err-skip_blank.ensures.refused; same_text = same_of c.in_err-skip_blank.ensures.kept })

pub returns-then-not-eat : goal.returns-then-not-eat
returns-then-not-eat g c =
    let b = brackets_of c.args.kind in
    let passed = c.in_ok-skip_blank.ensures.passed in
    let kept = c.if-not-eat.ensures.kept refl in
    record {
      found = tt;
      refused = missed_comma b c.args.comma_due c.args.scanner.now c.skip_blank.new.self c.eat.new.self c.unexpected_here.result c.if-not-comma_due.false passed kept.0 kept.1 (c.if-at_closing.ensures.other refl) (rw c.brackets-ends.ensures at c.unexpected_here.ensures);
      same_text = same_of kept.0 ∙ passed.1.same;
    }

pub returns-in_err-skip_blank-2 : goal.returns-in_err-skip_blank-2
returns-in_err-skip_blank-2 g c =
    let (y, is, from) = err_from_is_err_and c.from_residual-in_err-skip_blank-2.result c.from_residual-in_err-skip_blank-2.ensures.1 in
    let passed = c.in_ok-skip_blank.ensures.passed in
    let took = c.if-not-eat.ensures.taken refl in
    let refused = c.in_err-skip_blank-2.ensures in
    rw (is, from) (record {
      found = tt;
      refused = faulty_after (brackets_of c.args.kind) c.args.comma_due c.args.scanner.now c.skip_blank.new.self c.eat.new.self c.in_err-skip_blank-2.field-0.0 c.if-not-comma_due.false passed took refused.refused;
      same_text = same_of refused.kept ∙ took.same ∙ passed.1.same;
    })

pub returns : goal.returns
returns g c = record {
  found = found_after (brackets_of c.args.kind) c.args.comma_due c.at_closing-2.result c.args.scanner.now c.skip_blank.new.self c.eat.new.self c.skip_blank-2.new.self c.if-not-comma_due.false c.in_ok-skip_blank.ensures.passed (c.if-not-eat.ensures.taken refl)
      c.in_ok-skip_blank-2.ensures.passed c.at_closing-2.ensures.found c.at_closing-2.ensures.other;
  refused = tt;
  same_text = tt;
}
