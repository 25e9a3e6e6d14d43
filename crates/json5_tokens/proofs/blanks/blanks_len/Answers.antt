use Rattle.std.proofs.Common.{sym, ap, ◌∙◌, arith}
use lib.Count.{count_trailing_zeros}
use Rattle.json5_tokens.specs.ByteRuns.{is_ascii_blank, is_no_blank}
use Rattle.json5_tokens.proofs.ByteSearch.{run_stops, blank_or_none}
use Rattle.json5_tokens.proofs.blanks.blanks_len.Goals as goal

pub returns-then-found-ne0 : goal.returns-then-found-ne0
returns-then-found-ne0 c =
    let found = c.no_blanks-found in
    ap (count_trailing_zeros 64) found.ensures ∙ sym (run_stops is_no_blank is_ascii_blank blank_or_none c.args.bytes.now 0 16 (omega arith) (omega arith) (omega (arith, found.ensures)))
