use Rattle.std.proofs.Common.{◌∙◌, sym, subst, None}
use Rattle.std.specs.Prelude.{Ok, Err}
use Rattle.json5_tokens.specs.Cursor.{Cursor}
use Rattle.json5_read.specs.Opening.{AtScalar}
use Rattle.json5_read.specs.SkipSteps.{SkipsOrOpens}
use Rattle.json5_read.proofs.SkipScalars.{value_missing, scalar_passed, scalar_refused, opens, at_scalar}
use Rattle.json5_read.proofs.skip.skip_or_open.Goals as goal

pub returns-in_default : goal.returns-in_default
returns-in_default g c = value_missing c.args.room c.args.scanner.now c.peek.result c.leave_code.new.fault c.peek.ensures c.in_default.is c.leave_code.ensures.kind c.leave_code.ensures.place

pub returns-in_err-bracket : goal.returns-in_err-bracket
returns-in_err-bracket g c = rw c.from_residual.ensures (scalar_refused c.args.room c.args.scanner.now c.open_bracket.new.scanner c.open_bracket.new.fault c.in_err-bracket.ensures.refused c.in_err-bracket.ensures.same_text)

pub returns-in-Some-kind_opened : goal.returns-in-Some-kind_opened
returns-in-Some-kind_opened g c = opens c.args.room c.args.scanner.now c.open_bracket.new.scanner c.in_ok-bracket.bracket c.in_ok-bracket.ensures.opened

pub short_scalar-requires : goal.short_scalar-requires
short_scalar-requires g c = at_scalar c.args.scanner.now c.in-Some.c c.kind_opened.result c.requires (sym c.peek.ensures ∙ c.in-Some.is) c.in_default-kind_opened.is c.kind_opened.ensures

pub returns-then-short_scalar : goal.returns-then-short_scalar
returns-then-short_scalar g c = scalar_passed c.args.room c.args.scanner.now c.short_scalar.new.scanner tt ((rw c.if-short_scalar.true at c.short_scalar.ensures) c.args.room)

pub skip_scalar-requires : goal.skip_scalar-requires
skip_scalar-requires g c = subst (AtScalar c.in-Some.c) (sym (rw c.if-short_scalar.false at c.short_scalar.ensures)) (at_scalar c.args.scanner.now c.in-Some.c c.kind_opened.result c.requires (sym c.peek.ensures ∙ c.in-Some.is) c.in_default-kind_opened.is c.kind_opened.ensures)

pub returns-in_err-skip_scalar : goal.returns-in_err-skip_scalar
returns-in_err-skip_scalar g c =
    let k = c.in_err-skip_scalar.ensures c.args.room in
    rw c.from_residual-in_err-skip_scalar.ensures (subst (λ (s : Cursor). SkipsOrOpens c.args.room s c.skip_scalar.new.scanner (Err c.skip_scalar.new.fault)) (rw c.if-short_scalar.false at c.short_scalar.ensures)
    (scalar_refused c.args.room c.short_scalar.new.scanner c.skip_scalar.new.scanner c.skip_scalar.new.fault k.refused k.same_text))

pub returns : goal.returns
returns g c =
    subst (λ (s : Cursor). SkipsOrOpens c.args.room s c.skip_scalar.new.scanner (Ok None)) (rw c.if-short_scalar.false at c.short_scalar.ensures)
    (scalar_passed c.args.room c.short_scalar.new.scanner c.skip_scalar.new.scanner tt (c.in_ok-skip_scalar.ensures c.args.room).given)
