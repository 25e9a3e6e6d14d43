use Rattle.std.proofs.Common.{arith}
use Rattle.std.proofs.lemmas.Simd.{zip2_splat, zip2_of_maps}
use lib.Bits.{bit_and}
use Rattle.json5_tokens.proofs.ByteSearch.{other, masked}
use Rattle.json5_lexemes.specs.Runs.{ends_separators}
use Rattle.json5_lexemes.proofs.SharedRuns.{separator_lane}
use Rattle.json5_lexemes.proofs.runs.solids.Goals as goal

pub returns : goal.returns
returns c =
    let v = c.args.bytes in
    let long = c.fits-bytes.0 in
    let two = zip2_of_maps bit_and _ _ v (zip2_splat other v 16 32 long) (zip2_splat other v 16 9 long) in
    let three = zip2_of_maps bit_and _ _ v two (zip2_splat other v 16 10 long) in
    let four = zip2_of_maps bit_and _ _ v three (zip2_splat other v 16 13 long) in
    masked _ ends_separators v _ (omega arith) (zip2_of_maps bit_and _ _ v four (zip2_splat other v 16 44 long)) separator_lane
