use Rattle.std.proofs.Common.{◌-◌, arith, length, rules}
use Rattle.json5_types.proofs.ZeroPieces.{digits_boundary}
use Rattle.json5_types.proofs.decimal_pieces.Pieces.of_digits.Goals as goal

pub split_at-requires : goal.split_at-requires
split_at-requires c = digits_boundary c.args.digits.now (length c.args.digits.now - c.from-places.result) c.requires (omega arith)

pub returns-then-is_empty : goal.returns-then-is_empty
returns-then-is_empty c = search rules

pub returns : goal.returns
returns c = search rules
