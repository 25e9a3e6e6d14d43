use Rattle.std.proofs.Common.{◌≡◌, None, Some, refl, ap, rules}
use Rattle.std.proofs.lemmas.Result.{err_from_is_err_and}
use Rattle.json5_types.specs.NumberMeanings.{number_of}
use Rattle.json5_de.specs.Convert.{as_whole}
use Rattle.json5_de.proofs.TokenKinds.{lawful_whole, not_begun, number_refused, not_whole, in_range}
use Rattle.json5_de.proofs.de.Deserializer.read_whole.Goals as goal

pub returns-in_err-skip_blank-clause-reads : goal.returns-in_err-skip_blank-clause-reads
returns-in_err-skip_blank-clause-reads g c =
    let (y, is, from) = err_from_is_err_and c.from_residual.result c.from_residual.ensures.1 in
    rw (is, from) (not_begun (lawful_whole (λ z. Some z)) (λ read. read.1) c.args.self.now c.skip_blank.new.self c.in_err-skip_blank.field-0.0 c.in_err-skip_blank.ensures.refused c.in_err-skip_blank.ensures.failed c.in_err-skip_blank.ensures.before)

pub returns-in_err-whole-clause-reads : goal.returns-in_err-whole-clause-reads
returns-in_err-whole-clause-reads g c =
    let (y, is, from) = err_from_is_err_and c.from_residual-in_err-whole.result c.from_residual-in_err-whole.ensures.1 in
    rw (is, from) (number_refused (λ z. Some z) (λ read. read.1) c.args.self.now c.skip_blank.new.self c.number.new.self c.in_err-whole.field-0.0 c.in_ok-skip_blank.ensures.passed c.in_err-whole.ensures.refused c.in_err-whole.ensures.failed c.in_err-whole.ensures.complete)

pub returns-in_default-clause-reads : goal.returns-in_default-clause-reads
returns-in_default-clause-reads g c =
    let (s, took, num, stops) = c.in_ok-whole.ensures.taken in
    let none : as_whole (λ z. Some z) (number_of c.in_ok-whole.field-0) ≡ None = ap (λ n. as_whole (λ z. Some z) (number_of n)) c.in_default.is in
    not_whole (λ z. Some z) (λ read. read.1) c.args.self.now c.skip_blank.new.self c.number.new.self c.refuse_mismatch.new.self c.refuse_mismatch.result c.offset-start.result s (number_of c.in_ok-whole.field-0)
    c.in_ok-skip_blank.ensures.passed took num stops none c.offset-start.ensures.counted c.refuse_mismatch.ensures.refused c.refuse_mismatch.ensures.failed

pub returns-clause-place : goal.returns-clause-place
returns-clause-place g c =
    let (s, took, num, stops) = c.in_ok-whole.ensures.taken in
    record {
      between = c.skip_blank.new.self;
      phrase = s;
      passed = c.in_ok-skip_blank.ensures.passed;
      took = took;
      is_number = rw c.in-Whole.is at num;
      stops = stops;
      counted = c.offset-start.ensures.counted;
      offset = search (rules, c.offset-start.ensures.offset);
    }

pub returns-clause-reads : goal.returns-clause-reads
returns-clause-reads g c = in_range (λ z. Some z) (λ read. read.1) c.args.self.now c.number.new.self c.offset-start.result c.in-Whole.whole _ (returns-clause-place g c) refl
