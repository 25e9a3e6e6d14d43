use Rattle.std.proofs.Common.{sym}
use Rattle.json5_styles.proofs.PiecesPut.{put_as}
use Rattle.json5_styles.proofs.strings.put_string.Goals as goal

pub returns-then-needs_no_escape : goal.returns-then-needs_no_escape
returns-then-needs_no_escape g c = put_as _ _ _ _ _ (sym (c.needs_no_escape.ensures c.if-needs_no_escape.true)) c.put_between_quotes.ensures
