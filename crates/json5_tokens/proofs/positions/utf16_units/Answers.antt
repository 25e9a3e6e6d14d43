use Rattle.std.proofs.Common.{sym, ◌∙◌}
use Rattle.std.specs.Str.Iter.{chars_rest}
use Rattle.json5_tokens.proofs.UnitsCounted.{units_restart, units_grow, width_is, units_end}
use Rattle.json5_tokens.proofs.positions.utf16_units.Goals as goal

pub loop-c-preserved-then-is_json5_line_terminator : goal.loop-c-preserved-then-is_json5_line_terminator
loop-c-preserved-then-is_json5_line_terminator c =
    let l = c.loop-c in
    let ends = sym c.is_json5_line_terminator.ensures ∙ c.if-is_json5_line_terminator.true in
    units_restart c.args.text.now (chars_rest l.c-iterator) (chars_rest c.next.new.self) l.units c.in-Some.c c.in-Some.ensures.steps.0 ends l.invariant

pub loop-c-preserved : goal.loop-c-preserved
loop-c-preserved c =
    let l = c.loop-c in
    let goes = sym c.is_json5_line_terminator.ensures ∙ c.if-is_json5_line_terminator.false in
    let width = width_is c.in-Some.c c.len_utf16-units.result c.len_utf16-units.ensures.bmp c.len_utf16-units.ensures.surrogate_pair in
    units_grow c.args.text.now (chars_rest l.c-iterator) (chars_rest c.next.new.self) l.units c.len_utf16-units.result c.in-Some.c c.in-Some.ensures.steps.0 goes width l.invariant

pub returns : goal.returns
returns c =
    let l = c.loop-c in
    units_end c.args.text.now (chars_rest l.c-iterator) l.units c.in-None.ensures.steps.0.0 l.invariant
