use Rattle.cli_files.proofs.FoldersOpened.{on_ok, appended, opens_unread, opens_read}
use Rattle.cli_files.proofs.folders.push_entries.Goals as goal

pub returns-in_default : goal.returns-in_default
returns-in_default g c = on_ok c.push_name.result (λ e endings excluded. opens_unread (g.S.Store.known c.args.store.now) endings excluded _ c.args.left.now.items _ _ c.in_default.ensures e) c.push_name.ensures

pub returns : goal.returns
returns g c =
    on_ok c.append.result
    (λ e endings excluded. opens_read (g.S.Store.known c.args.store.now) endings excluded c.args.folder.now c.args.left.now.items c.args.found.now.items c.in-Ok.names.items c.sort.new.self.items _ c.in-Ok.ensures c.in_ok-sort.ensures.permutation c.in_ok-sort.ensures.sorted e)
    (appended c.args.left.now.items c.append.new.self.items c.reverse.new.self.items c.sort.new.self.items c.append.result c.append.ensures.items c.reverse.ensures.items)
