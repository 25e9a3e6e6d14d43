use Rattle.std.proofs.Common.{arith}
use Rattle.std.proofs.lemmas.Simd.{zip2_splat}
use Rattle.json5_tokens.proofs.ByteSearch.{hit, either, masked}
use Rattle.json5_styles.specs.JsonEscapes.{ends_unescaped}
use Rattle.json5_styles.proofs.JsonRuns.{below, unescaped_lane}
use Rattle.json5_styles.proofs.json_runs.stops.Goals as goal

pub returns : goal.returns
returns g c =
    let v = c.args.bytes in
    let long = c.fits-bytes.0 in
    let two = either _ _ v (zip2_splat below v g.row.N 32 long) (zip2_splat hit v g.row.N 34 long) in
    masked _ ends_unescaped v _ (omega (arith, long, c.requires)) (either _ _ v two (zip2_splat hit v g.row.N 92 long)) unescaped_lane
