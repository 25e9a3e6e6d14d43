use Rattle.std.proofs.Common.{◌≡◌, ◌<◌, length, rules, subst}
use Rattle.std.specs.Prelude.{slice_index}
use Rattle.json5_grammar.specs.Language.Numbers.{in_run}
use Rattle.json5_tokens.proofs.DecimalRuns.{run_begun, no_run_begun}
use Rattle.json5_tokens.proofs.numbers.decimal_literals.run_goes_on.Goals as goal

pub returns-then-not-is_empty : goal.returns-then-not-is_empty
returns-then-not-is_empty c =
    let some : 0 < length c.as_bytes-bytes.result.now = search rules in
    let same = c.as_bytes-bytes.ensures.value in
    run_begun c.args.text.now _ c.utf8.text (subst (λ s. 0 < length s) same some) (subst (λ s. c.is_in_run.result ≡ in_run (slice_index s 0)) same c.is_in_run.ensures)

pub returns-else-not-is_empty : goal.returns-else-not-is_empty
returns-else-not-is_empty c =
    let none : length c.as_bytes-bytes.result.now ≡ 0 = search rules in
    rw c.if-not-is_empty.false (no_run_begun c.args.text.now c.utf8.text (subst (λ s. length s ≡ 0) c.as_bytes-bytes.ensures.value none))
