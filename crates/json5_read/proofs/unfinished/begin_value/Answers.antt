use Rattle.std.proofs.Common.{◌∙◌, sym, subst}
use Rattle.json5_read.specs.Opening.{AtScalar}
use Rattle.json5_read.proofs.BuildScalars.{nothing_left, bracket_in_front, value_begun, scalar_begun, scalar_not_begun}
use Rattle.json5_read.proofs.SkipScalars.{at_scalar}
use Rattle.json5_read.proofs.unfinished.begin_value.Goals as goal

pub returns-in_default : goal.returns-in_default
returns-in_default g c = nothing_left c.args.scanner.now c.peek.result c.leave_code.new.fault c.peek.ensures c.in_default.is c.leave_code.ensures.kind c.leave_code.ensures.place

pub returns-in-Some-kind_opened : goal.returns-in-Some-kind_opened
returns-in-Some-kind_opened g c = bracket_in_front c.args.scanner.now c.in-Some.c c.in-Some-kind_opened.kind (sym c.peek.ensures ∙ c.in-Some.is) c.in-Some-kind_opened.ensures

pub short_value-requires : goal.short_value-requires
short_value-requires g c = at_scalar c.args.scanner.now c.in-Some.c c.kind_opened.result c.requires (sym c.peek.ensures ∙ c.in-Some.is) c.in_default-kind_opened.is c.kind_opened.ensures

pub returns-in-Some-short_value : goal.returns-in-Some-short_value
returns-in-Some-short_value g c = value_begun c.args.scanner.now c.short_value.new.scanner c.in-Some-short_value.value c.in-Some-short_value.ensures

pub read_scalar-requires : goal.read_scalar-requires
read_scalar-requires g c =
    subst (AtScalar c.in-Some.c) (sym c.in_default-short_value.ensures) (at_scalar c.args.scanner.now c.in-Some.c c.kind_opened.result c.requires (sym c.peek.ensures ∙ c.in-Some.is) c.in_default-kind_opened.is c.kind_opened.ensures)

pub returns-in_err-value : goal.returns-in_err-value
returns-in_err-value g c = rw (← c.in_default-short_value.ensures, c.from_residual.ensures) (scalar_not_begun c.short_value.new.scanner c.read_scalar.new.scanner c.read_scalar.new.fault c.in_err-value.ensures)

pub returns : goal.returns
returns g c = rw (← c.in_default-short_value.ensures) (scalar_begun c.short_value.new.scanner c.read_scalar.new.scanner c.in_ok-value.value c.in_ok-value.ensures)
