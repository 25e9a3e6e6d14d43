use Rattle.std.proofs.Common.{inl, inr, refl}
use Rattle.cli_files.proofs.FoldersOpened.{on_ok}
use Rattle.cli_files.proofs.folders.take_folder.Goals as goal

pub returns-then-branch : goal.returns-then-branch
returns-then-branch g c = λ excluded before. (before, inr (c.in_ok-leaves.ensures c.if-branch.true, refl, refl))

pub returns : goal.returns
returns g c = on_ok c.push_entries.result (λ opens excluded before. (c.in_ok-enter.ensures excluded before, inl opens)) c.push_entries.ensures
