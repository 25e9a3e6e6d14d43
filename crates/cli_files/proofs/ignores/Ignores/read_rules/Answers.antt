use Rattle.std.proofs.Common.{◌∙◌, subst}
use Rattle.std.specs.Prelude.{Some}
use Rattle.cli_files.specs.Ignores.{line}
use Rattle.cli_files.proofs.ignores.Ignores.read_rules.Goals as goal

pub returns : goal.returns
returns g c = λ is excluded before ruled.
    line c.args.folder.now c.args.file.now (g.S.File.Read.remaining c.in-Ok.found) is
    (subst (λ path. (g.S.Store.known c.args.store.now).opens path (Some (g.S.File.Read.remaining c.in-Ok.found))) (c.as_str.ensures.value ∙ c.in_ok-path.ensures)
    (g.met.S.Store.knows_opening _ _ _ c.in-Ok.ensures))
