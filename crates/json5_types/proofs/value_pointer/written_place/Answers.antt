use Rattle.std.proofs.Common.{◌-◌, ◌∙◌, ap, arith, string_bytes, sym, true, false}
use Rattle.json5_types.proofs.PointerKeys.{key_test, written_there, passed_written}
use Rattle.json5_types.proofs.value_pointer.written_place.Goals as goal

pub returns-then-is_written : goal.returns-then-is_written
returns-then-is_written c =
    let l = c.loop-end in
    let f = c.index-fields-end.result in
    let same = c.as_bytes.ensures.value ∙ c.as_str.ensures.value ∙ ap (λ m. string_bytes m.0) (sym c.index-fields-end.is) in
    let here = key_test c.as_bytes.result.now c.args.part.now c.as_bytes-in-loop-end.result.now f.0 c.is_written.result true c.as_bytes.ensures.utf8 same c.as_bytes-in-loop-end.ensures.value c.is_written.ensures c.if-is_written.true in
    written_there c.args.part.now c.args.fields.now (l.end - 1) l.end f (omega arith) (omega arith) c.index-fields-end.is l.invariant.1 here

pub loop-end-preserved : goal.loop-end-preserved
loop-end-preserved c =
    let l = c.loop-end in
    let f = c.index-fields-end.result in
    let same = c.as_bytes.ensures.value ∙ c.as_str.ensures.value ∙ ap (λ m. string_bytes m.0) (sym c.index-fields-end.is) in
    let other = key_test c.as_bytes.result.now c.args.part.now c.as_bytes-in-loop-end.result.now f.0 c.is_written.result false c.as_bytes.ensures.utf8 same c.as_bytes-in-loop-end.ensures.value c.is_written.ensures c.if-is_written.false in
    (omega arith, passed_written c.args.part.now c.args.fields.now (l.end - 1) l.end f (omega arith) (omega arith) c.index-fields-end.is l.invariant.1 other)
