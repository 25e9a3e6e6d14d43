use Rattle.std.proofs.Common.{inl, inr, refl}
use Rattle.cli_files.proofs.ignores.Ignores.enter.Goals as goal

pub returns : goal.returns
returns g c = λ excluded before. c.in_ok-ignored_by_git.ensures (inr refl) excluded (c.in_ok-ignored.ensures (inl refl) excluded before)
