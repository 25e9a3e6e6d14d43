use Rattle.std.proofs.Common.{bit_and, arith}
use Rattle.std.proofs.lemmas.Simd.{zip2_splat, zip2_splat_left, zip2_of_maps}
use Rattle.json5_tokens.specs.ByteRuns.{is_no_blank}
use Rattle.json5_tokens.proofs.ByteSearch.{below, either, masked, no_blank_lane, other}
use Rattle.json5_tokens.proofs.blanks.no_blanks.Goals as goal

pub returns : goal.returns
returns c =
    let v = c.args.bytes in
    let long = c.fits-bytes.0 in
    masked _ is_no_blank v _ (omega arith) (zip2_of_maps bit_and _ _ v (zip2_splat other v 16 32 long) (either _ _ v (zip2_splat below v 16 9 long) (zip2_splat_left below 13 16 v long))) no_blank_lane
