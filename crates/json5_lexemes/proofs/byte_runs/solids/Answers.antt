use Rattle.std.proofs.Common.{arith}
use Rattle.std.proofs.lemmas.Simd.{zip2_splat, zip2_of_maps}
use lib.Bits.{bit_and}
use Rattle.json5_tokens.proofs.ByteSearch.{masked}
use Rattle.json5_lexemes.specs.PlainSteps.{ends_blanks}
use Rattle.json5_lexemes.proofs.PlainRuns.{miss, solid_lane}
use Rattle.json5_lexemes.proofs.byte_runs.solids.Goals as goal

pub returns : goal.returns
returns c =
    let v = c.args.bytes in
    let long = c.fits-bytes.0 in
    let two = zip2_of_maps bit_and _ _ v (zip2_splat miss v 16 32 long) (zip2_splat miss v 16 9 long) in
    let three = zip2_of_maps bit_and _ _ v two (zip2_splat miss v 16 10 long) in
    masked _ ends_blanks v _ (omega arith) (zip2_of_maps bit_and _ _ v three (zip2_splat miss v 16 13 long)) solid_lane
