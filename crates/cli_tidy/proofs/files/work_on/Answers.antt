use Rattle.std.proofs.Common.{refl, rules}
use Rattle.cli_tidy.specs.Files.{worked, refused, unopened}
use Rattle.cli_tidy.proofs.files.work_on.Goals as goal

pub returns-in-Err : goal.returns-in-Err
returns-in-Err g c = unopened _ (g.met.S.Store.knows_opening _ _ _ c.in-Err.ensures) refl (search rules)

pub returns-in_default : goal.returns-in_default
returns-in_default g c = refused _ _ (g.met.S.Store.knows_opening _ _ _ c.in-Ok.ensures) tt refl (search rules)

pub returns-in-Ok-read_tidied : goal.returns-in-Ok-read_tidied
returns-in-Ok-read_tidied g c =
    worked _ _ _ (g.met.S.Store.knows_opening _ _ _ c.in-Ok.ensures) c.in-Ok-read_tidied.ensures.read.all
    (rw c.in-Ok-choose.ensures.stars at (rw c.in-Ok-choose.ensures.last_commas at c.in-Ok-read_tidied.ensures.read.tidies)) c.work_on_texts.ensures

pub returns : goal.returns
returns g c = refused _ c.in-Err-read_tidied.trouble (g.met.S.Store.knows_opening _ _ _ c.in-Ok.ensures) c.in-Err-read_tidied.ensures.stopped refl (search rules)
