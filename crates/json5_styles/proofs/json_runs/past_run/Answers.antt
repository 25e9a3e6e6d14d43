use Rattle.std.proofs.Common.{rules}
use Rattle.json5_tokens.proofs.RunBoundaries.{stop_boundary, stop_skips}
use Rattle.json5_styles.specs.Json.{is_unescaped}
use Rattle.json5_styles.proofs.JsonRuns.{unescaped_chars, stands_run}
use Rattle.json5_styles.proofs.json_runs.past_run.Goals as goal

pub split_at-requires : goal.split_at-requires
split_at-requires c = stop_boundary is_unescaped is_unescaped c.args.text.now _ unescaped_chars c.utf8.text c.requires

pub returns : goal.returns
returns c =
    let run = stop_skips is_unescaped is_unescaped c.args.text.now _ _ unescaped_chars c.utf8.text c.requires c.split_at.ensures.back in
    record { stands = stands_run _ _ c.utf8.text (search rules) run; run = run }
