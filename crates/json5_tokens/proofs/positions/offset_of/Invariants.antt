use Rattle.std.specs.Str.Iter.{chars_rest}
use Rattle.json5_tokens.proofs.PositionsReached.{Walk}
use Rattle.json5_tokens.proofs.positions.offset_of.Given as goal

abbrev pub invariant-loop-c : goal.invariant-loop-c
invariant-loop-c l = Walk l.fn.text l.wanted (chars_rest l.c-iterator) l.position l.is_after_cr l.offset
