use Rattle.json5_edit.proofs.plain.len_ahead.Goals as goal

pub returns-in-Ok : goal.returns-in-Ok
returns-in-Ok c = c.in-Ok.ensures.measured c.requires.solid

pub lack-requires : goal.lack-requires
lack-requires c = let a = c.requires in c.in-Err.ensures.refused a.all a.gone a.others a.parts a.goes a.fits
