use Rattle.std.proofs.Common.{refl, sym, true≢false}
use Rattle.cli_check.proofs.NamesChecked.{alone, found}
use Rattle.cli_check.proofs.names.files_below.Goals as goal

pub returns-then-is_stdin : goal.returns-then-is_stdin
returns-then-is_stdin g c =
    alone (g.S.Store.known c.args.store.now) c.args.options.now c.args.name.now c.new-names.result.items _ (c.if-is_stdin.ensures.0 refl) c.new-names.ensures.items c.in_ok-push_name.ensures

pub returns : goal.returns
returns g c =
    found (g.S.Store.known c.args.store.now) c.args.options.now c.args.name.now c.files_of.result c.deref.result.now c.deref-2.result.now (λ is. true≢false (sym (c.if-is_stdin.ensures.1 is))) c.deref.ensures.value c.deref-2.ensures.value
    c.files_of.ensures
