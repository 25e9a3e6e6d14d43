use Rattle.std.proofs.Common.{arith}
use Rattle.std.proofs.lemmas.Simd.{zip2_splat, zip2_splat_left}
use Rattle.json5_types.specs.DigitRuns.{is_no_digit}
use Rattle.json5_types.proofs.ByteSearch.{below, either, masked, no_digit_lane}
use Rattle.json5_types.proofs.digit_runs.no_digits.Goals as goal

pub returns : goal.returns
returns c =
    let v = c.args.bytes in
    let long = c.fits-bytes.0 in
    masked _ is_no_digit v _ (omega arith) (either _ _ v (zip2_splat below v 16 48 long) (zip2_splat_left below 57 16 v long)) no_digit_lane
