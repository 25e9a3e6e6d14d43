use Rattle.std.proofs.Common.{◌≡◌, length}
use Rattle.json5_fields.specs.Distinct.{is_one_of, texts}
use Rattle.json5_fields.proofs.distinct_texts.is_among.Given as goal

abbrev pub invariant-loop-item : goal.invariant-loop-item
invariant-loop-item l = is_one_of (texts l.fn.list) l.fn.text ≡ is_one_of (texts l.rest) l.fn.text

abbrev pub decreases-loop-item : goal.decreases-loop-item
decreases-loop-item l = length l.rest
