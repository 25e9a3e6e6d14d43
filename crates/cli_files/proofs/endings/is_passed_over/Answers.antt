use Rattle.std.proofs.Common.{inl, inr, ⊎_elim}
use lib.Chars.{codes}
use Rattle.cli_files.proofs.NamesEnded.{ends_decided}
use Rattle.cli_files.proofs.endings.is_passed_over.Goals as goal

pub returns-then-ends_with : goal.returns-then-ends_with
returns-then-ends_with c =
    let git = ends_decided c.args.name.now c.as_bytes-name.result.now (codes "/.git") c.ends_with.result c.as_bytes-name.ensures.value c.ends_with.ensures.value in
    (λ _. inl (git.0 c.if-ends_with.true), λ _. c.if-ends_with.true)

pub returns-else-ends_with : goal.returns-else-ends_with
returns-else-ends_with c =
    let git = ends_decided c.args.name.now c.as_bytes-name.result.now (codes "/.git") c.ends_with.result c.as_bytes-name.ensures.value c.ends_with.ensures.value in
    let modules = ends_decided c.args.name.now c.as_bytes-name.result.now (codes "/node_modules") c.ends_with-else-ends_with.result c.as_bytes-name.ensures.value c.ends_with-else-ends_with.ensures.value in
    (λ t. inr (modules.0 t), ⊎_elim (λ h. let yes = git.1 h in let no = c.if-ends_with.false in absurd (cc)) (λ h. modules.1 h))
