use Rattle.std.proofs.Common.{◌∙◌, refl, sym, subst, Ok, Err}
use Rattle.json5_tokens.specs.TokenCalls.{PassesNumber}
use Rattle.json5_read.proofs.SkipScalars.{literal_value, string_value, number_value, other_value}
use Rattle.json5_read.proofs.scalars.skip_scalar.Goals as goal

pub returns-in-Literal : goal.returns-in-Literal
returns-in-Literal g c room =
    rw c.leave_error.ensures (literal_value room c.args.scanner.now c.skip_literal.new.scanner c.args.c c.requires.first c.kind_at.result c.kind_at.ensures c.in-Literal.literal c.skip_literal.result c.requires.ready c.in-Literal.is c.skip_literal.ensures)

pub returns-in-String : goal.returns-in-String
returns-in-String g c room =
    rw c.leave_error-in-String.ensures (string_value room c.args.scanner.now c.skip_string.new.self c.args.c c.requires.first c.kind_at.result c.kind_at.ensures c.skip_string.result c.requires.ready c.in-String.is c.skip_string.ensures)

pub returns-in_ok-leave_error-in-Number : goal.returns-in_ok-leave_error-in-Number
returns-in_ok-leave_error-in-Number g c room =
    let number = c.in_ok-leave_error-in-Number.field-0 in
    number_value room c.args.scanner.now c.skip_number.new.self c.args.c c.requires.first c.kind_at.result c.kind_at.ensures (Ok number) c.requires.ready c.in-Number.is
    (subst (PassesNumber c.args.scanner.now c.skip_number.new.self) (sym c.in_ok-leave_error-in-Number.ensures) c.skip_number.ensures)

pub returns-in_err-leave_error-in-Number : goal.returns-in_err-leave_error-in-Number
returns-in_err-leave_error-in-Number g c room =
    let e = c.leave_error-in-Number.new.fault in
    rw c.from_residual.ensures (number_value room c.args.scanner.now c.skip_number.new.self c.args.c c.requires.first c.kind_at.result c.kind_at.ensures (Err e) c.requires.ready c.in-Number.is
    (subst (PassesNumber c.args.scanner.now c.skip_number.new.self) (sym c.in_err-leave_error-in-Number.ensures) c.skip_number.ensures))

pub returns-in-Other : goal.returns-in-Other
returns-in-Other g c room =
    other_value room c.args.scanner.now c.args.scanner.now c.args.c c.requires.first c.kind_at.result c.kind_at.ensures c.leave_here.new.fault c.requires.ready c.in-Other.is (c.requires.other (sym c.kind_at.ensures ∙ c.in-Other.is))
    c.leave_here.ensures.kind c.leave_here.ensures.placed refl
