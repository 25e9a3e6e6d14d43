use Rattle.std.proofs.Common.{sym, ◌∙◌, refl}
use Rattle.json5_settings.proofs.SchemasMade.{default_chars}
use Rattle.json5_settings.proofs.SlipsSeen.{if_ok_then}
use Rattle.json5_settings.proofs.schemas.part_of_default.Goals as goal

pub returns : goal.returns
returns c =
    if_ok_then c.alone.result c.alone.ensures (λ parts is. is ∙ rw (sym c.is_json.ensures, c.if-not-is_json.false, default_chars, c.in_ok-clone.ensures.1) refl)
