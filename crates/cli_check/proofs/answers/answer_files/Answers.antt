use Rattle.std.proofs.Common.{sym, eqb-true, arith}
use Rattle.std.proofs.lemmas.List.{nil_from_length}
use Rattle.cli_check.specs.Answers.{unnamed, checked}
use Rattle.cli_check.proofs.Statuses.{some_name}
use Rattle.cli_check.proofs.answers.answer_files.Goals as goal

pub returns-then-is_empty : goal.returns-then-is_empty
returns-then-is_empty g c =
    let names = c.args.options.now.names in
    let none = eqb-true _ _ (sym c.if-is_empty.ensures) in
    rw c.usage.ensures.0 (unnamed (nil_from_length names.items (omega (arith, names.ok.0, none))) c.usage.ensures.1)

pub returns : goal.returns
returns g c =
    let names = c.args.options.now.names in
    checked (some_name names.items names.len names.ok.0 (sym c.if-is_empty.ensures)) c.check_all.ensures
