use Rattle.std.proofs.Common.{refl}
use Rattle.json5_edit.proofs.PlainlyEdited.{colon_alone}
use Rattle.json5_edit.proofs.pieces.check_name.Goals as goal

pub returns-then-same_lexemes : goal.returns-then-same_lexemes
returns-then-same_lexemes c = colon_alone c.args.kind c.args.name.now c.in_ok-_key-in-Object._key.now c.in_ok-_key-in-Object.colon.now c.in-Object.is c.in_ok-_key-in-Object.ensures (c.if-same_lexemes.ensures refl)
