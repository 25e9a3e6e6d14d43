use Rattle.json5_walk.proofs.Calls.{offset_seam, rest_unread}
use Rattle.json5_convert.proofs.spelled_anew.rest_of.Goals as goal

pub split_at-requires : goal.split_at-requires
split_at-requires c = offset_seam c.args.scanner.now c.input-text.result.now c.offset.result c.input-text.utf8 c.input-text.ensures c.offset.ensures.suffix c.offset.ensures.scalars c.offset.ensures.counted

pub returns : goal.returns
returns c = rest_unread c.args.scanner.now c.input-text.result.now c.offset.result c.input-text.utf8 c.input-text.ensures c.offset.ensures.suffix c.offset.ensures.scalars c.offset.ensures.counted c.split_at.result.1.now c.split_at.ensures.back
