use Rattle.std.proofs.Common.{sym, ◌∙◌, subst}
use Rattle.std.specs.Str.{chars}
use Rattle.std.proofs.lemmas.Result.{err_from_is_err_and}
use Rattle.json5_tokens.specs.Cursor.{Refused}
use Rattle.json5_tokens.specs.TokenFaults.{FaultyBlanks}
use Rattle.json5_types.specs.ValueMeanings.{value_of}
use Rattle.json5_read.specs.OwnedReads.{BlamesOrMemory, datum_at}
use Rattle.json5_read.specs.ModelSteps.{Gave}
use Rattle.json5_read.proofs.DocumentReads.{SkippedGap, front_refused, value_refused, rest_refused, all_read, character_refused}
use Rattle.json5_read.proofs.documents.read_document_within.Goals as goal

pub returns-in_err-skip_blank : goal.returns-in_err-skip_blank
returns-in_err-skip_blank c =
    let (y, is, from) = err_from_is_err_and c.from_residual.result c.from_residual.ensures.1 in
    let e = c.in_err-skip_blank.field-0.0 in
    rw (is, from) (front_refused c.args.limit (chars c.args.text.now) e (subst (λ s. Refused FaultyBlanks s e) c.new-scanner.ensures c.in_err-skip_blank.ensures.refused))

pub returns-in_err-value : goal.returns-in_err-value
returns-in_err-value c =
    let (y, is, from) = err_from_is_err_and c.from_residual-in_err-value.result c.from_residual-in_err-value.ensures.1 in
    let e = c.in_err-value.field-0.0 in
    let mid = c.skip_blank.new.self in
    let passed = subst (λ s. SkippedGap s mid) c.new-scanner.ensures c.in_ok-skip_blank.ensures.passed in
    let blamed = subst (λ room. BlamesOrMemory mid.input (datum_at room mid) e) (c.from.ensures ∙ c.get.ensures.number) c.in_err-value.ensures.refused in
    rw (is, from) (value_refused c.args.limit (chars c.args.text.now) mid passed e blamed)

pub returns-in_err-skip_blank-2 : goal.returns-in_err-skip_blank-2
returns-in_err-skip_blank-2 c =
    let (y, is, from) = err_from_is_err_and c.from_residual-in_err-skip_blank-2.result c.from_residual-in_err-skip_blank-2.ensures.1 in
    let mid = c.skip_blank.new.self in
    let new = c.read_value.new.scanner in
    let v = c.in_ok-value.value in
    let passed = subst (λ s. SkippedGap s mid) c.new-scanner.ensures c.in_ok-skip_blank.ensures.passed in
    let gave = subst (λ room. Gave (datum_at room mid) (value_of v) mid new) (c.from.ensures ∙ c.get.ensures.number) c.in_ok-value.ensures.given in
    rw (is, from) (rest_refused c.args.limit (chars c.args.text.now) mid passed v new gave c.in_err-skip_blank-2.field-0.0 c.in_err-skip_blank-2.ensures.refused)

pub returns-in-Some : goal.returns-in-Some
returns-in-Some c =
    let mid = c.skip_blank.new.self in
    let new = c.read_value.new.scanner in
    let v = c.in_ok-value.value in
    let passed = subst (λ s. SkippedGap s mid) c.new-scanner.ensures c.in_ok-skip_blank.ensures.passed in
    let gave = subst (λ room. Gave (datum_at room mid) (value_of v) mid new) (c.from.ensures ∙ c.get.ensures.number) c.in_ok-value.ensures.given in
    character_refused c.args.limit (chars c.args.text.now) mid passed v new gave c.skip_blank-2.new.self c.in_ok-skip_blank-2.ensures.passed c.in-Some.field-0 c.fault_here.result (sym c.in-Some.ensures) c.fault_here.ensures.kind c.fault_here.ensures.placed

pub returns-in-None : goal.returns-in-None
returns-in-None c =
    let mid = c.skip_blank.new.self in
    let new = c.read_value.new.scanner in
    let v = c.in_ok-value.value in
    let passed = subst (λ s. SkippedGap s mid) c.new-scanner.ensures c.in_ok-skip_blank.ensures.passed in
    let gave = subst (λ room. Gave (datum_at room mid) (value_of v) mid new) (c.from.ensures ∙ c.get.ensures.number) c.in_ok-value.ensures.given in
    all_read c.args.limit (chars c.args.text.now) mid passed v new gave c.skip_blank-2.new.self c.in_ok-skip_blank-2.ensures.passed (sym c.in-None.ensures)
