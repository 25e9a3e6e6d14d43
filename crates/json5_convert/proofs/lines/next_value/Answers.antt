use Rattle.std.proofs.Common.{sym}
use Rattle.json5_convert.proofs.StreamsRead.{next_read, none_left, handed_on, told, blanks_unprompted}
use Rattle.json5_convert.proofs.StreamsRefused.{front_refused, value_refused}
use Rattle.json5_convert.specs.Streams.{RefusesNext}
use Rattle.json5_convert.proofs.lines.next_value.Goals as goal

pub returns-in-None : goal.returns-in-None
returns-in-None g c = record { taken = none_left c.args.scanner.now c.skip_blank.new.self c.in_ok-skip_blank.ensures.passed (sym c.in-None.ensures); unprompted = tt; faulty = tt }

pub returns-in_ok-value-in-Some : goal.returns-in_ok-value-in-Some
returns-in_ok-value-in-Some g c = record { taken = next_read c.args.scanner.now c.skip_blank.new.self c.read_value.new.scanner c.in_ok-value-in-Some.value c.in_ok-skip_blank.ensures.passed c.in_ok-value-in-Some.ensures.given; unprompted = tt; faulty = tt }

pub returns-in_err-skip_blank-clause-unprompted : goal.returns-in_err-skip_blank-clause-unprompted
returns-in_err-skip_blank-clause-unprompted g c = handed_on _ _ c.from_residual.ensures.1 (blanks_unprompted c.args.scanner.now _ c.in_err-skip_blank.ensures.refused)

pub returns-in_err-skip_blank-clause-faulty : goal.returns-in_err-skip_blank-clause-faulty
returns-in_err-skip_blank-clause-faulty g c = told (RefusesNext c.args.scanner.now) _ _ c.from_residual.ensures.1 (front_refused c.args.scanner.now _ c.in_err-skip_blank.ensures.refused)

pub returns-in_err-value-in-Some-clause-faulty : goal.returns-in_err-value-in-Some-clause-faulty
returns-in_err-value-in-Some-clause-faulty g c = told (RefusesNext c.args.scanner.now) _ _ c.from_residual-in_err-value-in-Some.ensures.1 (value_refused c.args.scanner.now c.skip_blank.new.self _ c.in_ok-skip_blank.ensures.passed c.in-Some.field-0 c.in-Some.ensures c.in_err-value-in-Some.ensures.refused)
