use Rattle.std.proofs.Common.{sym, ◌∙◌, refl}
use Rattle.json5_settings.proofs.SlipsSeen.{if_ok_then}
use Rattle.json5_settings.proofs.listed.path_to.Goals as goal

pub returns : goal.returns
returns c = if_ok_then c.format.result c.format.ensures.ok (λ path is. is ∙ rw (sym c.is_empty.ensures, c.if-is_empty.false) refl)
