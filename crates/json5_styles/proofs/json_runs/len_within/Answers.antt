use Rattle.std.proofs.Common.{sym, ap, ◌∙◌, arith}
use lib.Count.{count_trailing_zeros}
use Rattle.json5_styles.specs.Json.{is_unescaped}
use Rattle.json5_styles.specs.JsonEscapes.{ends_unescaped}
use Rattle.json5_styles.proofs.JsonRuns.{opposite}
use Rattle.json5_tokens.proofs.ByteSearch.{run_stops}
use Rattle.json5_styles.proofs.json_runs.len_within.Goals as goal

pub returns-then-found-ne0 : goal.returns-then-found-ne0
returns-then-found-ne0 c =
    let found = c.stops-found in
    ap (count_trailing_zeros 64) found.ensures ∙ sym (run_stops ends_unescaped is_unescaped opposite c.args.bytes.now 0 16 (omega arith) (omega arith) (omega (arith, found.ensures)))
