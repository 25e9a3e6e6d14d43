use Rattle.json5_tokens.proofs.UnitsCounted.{column_found}
use Rattle.json5_tokens.proofs.positions.PositionInText.utf16_column.Goals as goal

pub returns : goal.returns
returns c =
    column_found c.args.text.now c.split_at.result.0.now c.args.self.now c.in_ok-offset.offset c.utf16_units.result c.utf8.text c.in_ok-offset.ensures c.split_at.ensures.front c.utf16_units.ensures
