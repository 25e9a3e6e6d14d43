use Rattle.std.proofs.Common.{sym, eqb-true, arith}
use Rattle.cli_check.specs.Checks.{given_schema}
use Rattle.cli_check.specs.Names.{no_memory}
use Rattle.cli_check.proofs.NamesChecked.{below, none_below}
use Rattle.cli_check.proofs.Statuses.{some_name}
use Rattle.cli_check.proofs.names.check_below.Goals as goal

pub returns-in_default : goal.returns-in_default
returns-in_default g c = no_memory

pub returns-then-is_empty : goal.returns-then-is_empty
returns-then-is_empty g c =
    let names = c.in-Ok.names in
    let none = eqb-true _ _ (sym c.if-is_empty.ensures) in
    none_below (g.S.Store.known c.args.store.now) c.args.options.now c.args.name.now (given_schema c.args.given) (g.R.Read.remaining c.args.r.now) names.items (omega (arith, names.ok.0, none)) c.in-Ok.ensures

pub returns : goal.returns
returns g c =
    let names = c.in-Ok.names in
    below (g.S.Store.known c.args.store.now) c.args.options.now c.args.name.now (given_schema c.args.given) (g.R.Read.remaining c.args.r.now) names.items _ _ _ c.as_slice.result.now
    (some_name names.items names.len names.ok.0 (sym c.if-is_empty.ensures)) c.as_slice.ensures.value c.in-Ok.ensures c.check_each.ensures
