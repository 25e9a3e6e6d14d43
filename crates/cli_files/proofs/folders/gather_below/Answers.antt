use Rattle.std.proofs.Common.{arith}
use Rattle.std.proofs.lemmas.List.{nil_from_length}
use Rattle.cli_files.proofs.FoldersOpened.{begins, goes_on, gathers}
use Rattle.cli_files.proofs.folders.gather_below.Goals as goal

pub loop-init : goal.loop-init
loop-init g c = λ excluded before. (
  before,
  begins (g.S.Store.known c.args.store.now) c.args.endings.now excluded c.args.folder.now c.new-left.result.items c.args.found.now.items c.push_entries.new.left.items c.push_entries.new.found.items c.new-left.ensures.items
      (c.in_ok-push_entries.ensures c.args.endings.now excluded),
)

pub returns-in_default : goal.returns-in_default
returns-in_default g c = λ excluded before.
    let (after, gathering) = c.loop.invariant excluded before in
    (after, gathers (g.S.Store.known c.args.store.now) c.args.endings.now excluded c.args.folder.now c.args.found.now.items c.loop.left.items c.loop.found.items (nil_from_length c.loop.left.items (omega (arith, c.loop.left.ok.0, c.in_default.ensures.cases.0))) gathering)

pub loop-preserved : goal.loop-preserved
loop-preserved g c = λ excluded before.
    let (between, gathering) = c.loop.invariant excluded before in
    let (after, leads) = c.in_ok-take_entry.ensures excluded between in (
      after,
      goes_on (g.S.Store.known c.args.store.now) c.args.endings.now excluded c.args.folder.now c.args.found.now.items c.loop.left.items c.pop.new.self.items c.loop.found.items c.take_entry.new.left.items c.take_entry.new.found.items
          c.in-Some.name c.as_str.result.now c.in-Some.ensures.items c.as_str.ensures.value gathering leads,
    )
