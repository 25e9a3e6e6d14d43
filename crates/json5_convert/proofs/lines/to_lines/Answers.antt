use Rattle.std.proofs.Common.{refl, string_bytes}
use Rattle.std.proofs.lemmas.Result.{err_from_is_err_and}
use Rattle.json5_convert.proofs.LinesJoined.{lacks_here, lines_more, refuses_here, refuses_later}
use Rattle.json5_convert.proofs.lines.to_lines.Goals as goal

pub loop-value-preserved : goal.loop-value-preserved
unfolding lib.Utf8.encode
loop-value-preserved c =
    let written = c.in_ok-line.ensures in (
      lines_more c.loop-value.value-index c.args.values.now c.value-item.result (string_bytes c.loop-value.made) c.as_str.result.now (string_bytes c.push_str.new.self) (string_bytes c.push.new.self)
          c.loop-value-test.true c.value-item.is c.loop-value.invariant.0 (rw (c.as_str.ensures.value, written.2.encoded) refl) c.in_ok-push_str.ensures.bytes c.in_ok-push.ensures.bytes,
      λ e r. c.loop-value.invariant.1 e (refuses_later c.loop-value.value-index c.args.values.now c.value-item.result e c.loop-value-test.true c.value-item.is written.0 written.1 r),
    )

pub returns-in_err-line-clause-refused : goal.returns-in_err-line-clause-refused
returns-in_err-line-clause-refused c =
    let (y, is, from) = err_from_is_err_and c.from_residual.result c.from_residual.ensures.1 in
    let l = c.loop-value in
    rw (is, from) (l.invariant.1 c.in_err-line.field-0.0 (refuses_here l.value-index c.args.values.now c.value-item.result c.in_err-line.field-0.0 c.loop-value-test.true c.value-item.is c.in_err-line.ensures))

pub returns-in_err-push_str-clause-refused : goal.returns-in_err-push_str-clause-refused
returns-in_err-push_str-clause-refused c =
    let (y, is, from) = err_from_is_err_and c.from_residual-in_err-push_str.result c.from_residual-in_err-push_str.ensures.1 in
    let l = c.loop-value in
    let written = c.in_ok-line.ensures in
    rw is (l.invariant.1 y (lacks_here l.value-index c.args.values.now c.value-item.result y c.loop-value-test.true c.value-item.is written.0 written.1 from))

pub returns-in_err-push-clause-refused : goal.returns-in_err-push-clause-refused
returns-in_err-push-clause-refused c =
    let (y, is, from) = err_from_is_err_and c.from_residual-in_err-push.result c.from_residual-in_err-push.ensures.1 in
    let l = c.loop-value in
    let written = c.in_ok-line.ensures in
    rw is (l.invariant.1 y (lacks_here l.value-index c.args.values.now c.value-item.result y c.loop-value-test.true c.value-item.is written.0 written.1 from))
