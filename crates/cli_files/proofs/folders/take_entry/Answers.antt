use Rattle.std.proofs.Common.{sym, true≢false, refl}
use Rattle.cli_files.specs.Folders.{file, unsought, unknown, other, passed}
use Rattle.cli_files.proofs.FoldersOpened.{on_ok, leads_past, leads_taken, leads_through}
use Rattle.cli_files.proofs.folders.take_entry.Goals as goal

pub returns-in-Folder : goal.returns-in-Folder
returns-in-Folder g c =
    on_ok c.take_folder.result
    (λ took excluded before.
    let (after, takes) = took excluded before in (
      after,
      leads_through (g.S.Store.known c.args.store.now) c.args.endings.now excluded c.take_folder.new.ignores c.args.name.now c.args.left.now.items c.args.found.now.items c.take_folder.new.left.items c.take_folder.new.found.items
          after c.in-Folder.ensures (λ p. true≢false (sym (c.if-not-is_passed_over.ensures.1 p))) takes,
    ))
    c.take_folder.ensures

pub returns-in-File : goal.returns-in-File
returns-in-File g c =
    on_ok c.take_file.result
    (λ takes excluded before. (
      before,
      leads_taken (g.S.Store.known c.args.store.now) c.args.endings.now excluded c.args.ignores.now c.args.name.now c.args.left.now.items c.args.found.now.items c.take_file.new.found.items before takes
          (λ names more k. file c.args.name.now c.in-File.ensures (c.if-is_sought.ensures.0 refl) k),
    ))
    c.take_file.ensures

pub returns-in-Unknown : goal.returns-in-Unknown
returns-in-Unknown g c =
    on_ok c.take_file-in-Unknown.result
    (λ takes excluded before. (
      before,
      leads_taken (g.S.Store.known c.args.store.now) c.args.endings.now excluded c.args.ignores.now c.args.name.now c.args.left.now.items c.args.found.now.items c.take_file-in-Unknown.new.found.items before takes
          (λ names more k. unknown c.args.name.now c.in-Unknown.ensures k),
    ))
    c.take_file-in-Unknown.ensures

pub returns-in_default : goal.returns-in_default
returns-in_default g c = λ excluded before.
    (before, leads_past (g.S.Store.known c.args.store.now) c.args.endings.now excluded c.args.name.now c.args.left.now.items c.args.found.now.items (λ names more k. passed c.args.name.now c.in-Folder.ensures (c.if-not-is_passed_over.ensures.0 refl) k))

pub returns-in_default-2 : goal.returns-in_default-2
returns-in_default-2 g c = λ excluded before.
    (before, leads_past (g.S.Store.known c.args.store.now) c.args.endings.now excluded c.args.name.now c.args.left.now.items c.args.found.now.items (λ names more k. unsought c.args.name.now c.in-File.ensures (λ s. true≢false (sym (c.if-is_sought.ensures.1 s))) k))

pub returns-in_default-3 : goal.returns-in_default-3
returns-in_default-3 g c = λ excluded before.
    (before, leads_past (g.S.Store.known c.args.store.now) c.args.endings.now excluded c.args.name.now c.args.left.now.items c.args.found.now.items (λ names more k. other c.args.name.now c.in_default.ensures k))
