use Rattle.std.proofs.Common.{◌∙◌}
use Rattle.json5_types.proofs.ZeroPieces.{zeros_boundary, zeros_cut}
use Rattle.json5_types.proofs.decimal_pieces.few_zeros.Goals as goal

pub split_at-requires : goal.split_at-requires
split_at-requires c = zeros_boundary _ 64 c.args.count c.many_zeros.ensures c.requires

pub returns : goal.returns
returns c = c.split_at.ensures.front ∙ zeros_cut _ 64 c.args.count c.many_zeros.ensures c.requires
