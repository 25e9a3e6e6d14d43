use Rattle.std.proofs.Common.{arith}
use Rattle.std.proofs.lemmas.Simd.{zip2_splat}
use Rattle.json5_tokens.proofs.ByteSearch.{hit, either, masked}
use Rattle.json5_write.specs.EscapeFree.{ends_escape_free}
use Rattle.json5_write.proofs.EscapeFreeRuns.{escape_free_lane}
use Rattle.json5_write.proofs.escape_free.stops.Goals as goal

pub returns : goal.returns
returns c =
    let v = c.args.bytes in
    let long = c.fits-bytes.0 in
    let two = either _ _ v (zip2_splat hit v 16 10 long) (zip2_splat hit v 16 13 long) in
    let four = either _ _ v (either _ _ v two (zip2_splat hit v 16 226 long)) (zip2_splat hit v 16 34 long) in
    masked _ ends_escape_free v _ (omega arith) (either _ _ v (either _ _ v four (zip2_splat hit v 16 39 long)) (zip2_splat hit v 16 92 long)) escape_free_lane
