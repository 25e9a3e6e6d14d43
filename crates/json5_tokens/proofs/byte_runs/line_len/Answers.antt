use Rattle.std.proofs.Common.{◌≡◌, ℕ, Bool, true, false, not, ◌||◌, ◌&&◌, refl, sym, ap, ◌∙◌, arith}
use lib.Count.{count_trailing_zeros}
use Rattle.std.specs.Prelude.{◌==◌}
use Rattle.memchr.specs.Find.{is_byte3}
use Rattle.json5_tokens.specs.ByteRuns.{is_in_line}
use Rattle.json5_tokens.proofs.ByteSearch.{run_stops}
use Rattle.json5_tokens.proofs.FirstBytes.{run_found}
use Rattle.json5_tokens.proofs.byte_runs.line_len.Goals as goal

none_of_three : (a b c : Bool) → (not a && (not b && not c)) ≡ not (a || b || c)
none_of_three true b c = refl
none_of_three false true c = refl
none_of_three false false c = refl

none_of_line : (x : ℕ) → is_in_line x ≡ not (is_byte3 10 13 226 x)
none_of_line x = none_of_three (x == 10) (x == 13) (x == 226)

pub returns : goal.returns
returns c =
    c.unwrap_or.ensures ∙ run_found (is_byte3 10 13 226) is_in_line none_of_line c.args.bytes.now c.memchr3.result c.memchr3.ensures

pub returns-then-found-ne0 : goal.returns-then-found-ne0
returns-then-found-ne0 c =
    let found = c.line_ends-found in
    ap (count_trailing_zeros 64) found.ensures ∙ sym (run_stops (is_byte3 10 13 226) is_in_line none_of_line c.args.bytes.now 0 16 (omega arith) (omega arith) (omega (arith, found.ensures)))
