use Rattle.std.proofs.Common.{◌≡◌, ◌∙◌, sym, length, arith}
use Rattle.std.proofs.lemmas.Bool.Decides.{nat_tests}
use Rattle.json5_tokens.proofs.ScanRuns.{past_none, past_some}
use Rattle.json5_tokens.proofs.strings_and_names.Kind.past.Goals as goal

pub returns-then-is_empty : goal.returns-then-is_empty
returns-then-is_empty c =
    let none : length c.args.run.now ≡ 0 = grind (arith, nat_tests, c.if-is_empty.ensures, c.if-is_empty.true) in
    sym (past_none c.args.self c.args.run.now none)

pub returns-else-is_empty : goal.returns-else-is_empty
returns-else-is_empty c = c.rest.ensures ∙ sym (past_some c.args.self c.args.run.now c.utf8.run (λ none. grind (arith, nat_tests, c.if-is_empty.ensures, c.if-is_empty.false)))
