use Rattle.std.proofs.Common.{arith}
use Rattle.std.proofs.lemmas.Simd.{zip2_splat}
use Rattle.json5_tokens.specs.ByteRuns.{ends_raw}
use Rattle.json5_tokens.proofs.ByteSearch.{hit, either, masked, raw_lane}
use Rattle.json5_tokens.proofs.byte_runs.stops.Goals as goal

pub returns : goal.returns
returns c =
    let v = c.args.bytes in
    let q = c.args.quote in
    let long = c.fits-bytes.0 in
    masked _ (ends_raw q) v _ (omega arith)
    (either _ _ v (either _ _ v (either _ _ v (zip2_splat hit v 16 q long) (zip2_splat hit v 16 92 long)) (zip2_splat hit v 16 10 long)) (zip2_splat hit v 16 13 long)) (raw_lane q)
