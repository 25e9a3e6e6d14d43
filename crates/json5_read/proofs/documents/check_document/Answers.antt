use Rattle.std.proofs.Common.{sym, subst}
use Rattle.std.specs.Str.{chars}
use Rattle.std.proofs.lemmas.Result.{err_from_is_err_and}
use Rattle.json5_grammar.specs.Language.Documents.{max_depth}
use Rattle.json5_tokens.specs.Cursor.{Refused}
use Rattle.json5_tokens.specs.TokenFaults.{FaultyBlanks}
use Rattle.json5_read.proofs.DocumentReads.{SkippedGap}
use Rattle.json5_read.proofs.DocumentChecks.{front_unchecked, value_unchecked, rest_unchecked, all_checked, character_unchecked}
use Rattle.json5_read.proofs.documents.check_document.Goals as goal

pub returns-in_err-skip_blank : goal.returns-in_err-skip_blank
returns-in_err-skip_blank c =
    let (y, is, from) = err_from_is_err_and c.from_residual.result c.from_residual.ensures.1 in
    let e = c.in_err-skip_blank.field-0.0 in
    rw (is, from) (front_unchecked max_depth (chars c.args.text.now) e (subst (λ s. Refused FaultyBlanks s e) c.new-scanner.ensures c.in_err-skip_blank.ensures.refused))

pub returns-in_err-skip_value : goal.returns-in_err-skip_value
returns-in_err-skip_value c =
    let (y, is, from) = err_from_is_err_and c.from_residual-in_err-skip_value.result c.from_residual-in_err-skip_value.ensures.1 in
    let mid = c.skip_blank.new.self in
    let passed = subst (λ s. SkippedGap s mid) c.new-scanner.ensures c.in_ok-skip_blank.ensures.passed in
    rw (is, from) (value_unchecked max_depth (chars c.args.text.now) mid passed c.in_err-skip_value.field-0.0 c.in_err-skip_value.ensures.refused)

pub returns-in_err-skip_blank-2 : goal.returns-in_err-skip_blank-2
returns-in_err-skip_blank-2 c =
    let (y, is, from) = err_from_is_err_and c.from_residual-in_err-skip_blank-2.result c.from_residual-in_err-skip_blank-2.ensures.1 in
    let mid = c.skip_blank.new.self in
    let passed = subst (λ s. SkippedGap s mid) c.new-scanner.ensures c.in_ok-skip_blank.ensures.passed in
    rw (is, from) (rest_unchecked max_depth (chars c.args.text.now) mid passed c.skip_value.new.scanner c.in_ok-skip_value.ensures.given c.in_err-skip_blank-2.field-0.0 c.in_err-skip_blank-2.ensures.refused)

pub returns-in-Some : goal.returns-in-Some
returns-in-Some c =
    let mid = c.skip_blank.new.self in
    let passed = subst (λ s. SkippedGap s mid) c.new-scanner.ensures c.in_ok-skip_blank.ensures.passed in
    character_unchecked max_depth (chars c.args.text.now) mid passed c.skip_value.new.scanner c.in_ok-skip_value.ensures.given
    c.skip_blank-2.new.self c.in_ok-skip_blank-2.ensures.passed c.in-Some.field-0 c.fault_here.result (sym c.in-Some.ensures) c.fault_here.ensures.kind c.fault_here.ensures.placed

pub returns-in-None : goal.returns-in-None
returns-in-None c =
    let mid = c.skip_blank.new.self in
    let passed = subst (λ s. SkippedGap s mid) c.new-scanner.ensures c.in_ok-skip_blank.ensures.passed in
    all_checked max_depth (chars c.args.text.now) mid passed c.skip_value.new.scanner c.in_ok-skip_value.ensures.given c.skip_blank-2.new.self c.in_ok-skip_blank-2.ensures.passed (sym c.in-None.ensures)
