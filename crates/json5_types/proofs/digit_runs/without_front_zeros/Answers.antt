use Rattle.std.proofs.Common.{◌∙◌, sym, refl, arith}
use Rattle.std.proofs.lemmas.Str.{IsCharBoundary-start, IsCharBoundary-after_ascii}
use Rattle.json5_types.proofs.AsciiRuns.{zero_past}
use Rattle.json5_types.proofs.digit_runs.without_front_zeros.Goals as goal

pub loop-start-init : goal.loop-start-init
loop-start-init c = record { inside = omega arith; cut = IsCharBoundary-start _ c.as_bytes-bytes.ensures.utf8; same = refl }

pub loop-start-preserved : goal.loop-start-preserved
loop-start-preserved c = record {
  inside = omega arith;
  cut = IsCharBoundary-after_ascii _ c.loop-start.start c.as_bytes-bytes.ensures.utf8 c.loop-start-test.true (omega (arith, c.if-bytes-start-eq48.true));
  same = sym (zero_past c.as_bytes-bytes.result.now c.loop-start.start c.loop-start-test.true c.if-bytes-start-eq48.true) ∙ c.loop-start.invariant.same;
}
