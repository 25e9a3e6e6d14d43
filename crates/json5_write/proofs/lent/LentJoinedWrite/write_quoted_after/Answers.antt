use Rattle.std.proofs.Common.{[], ◌∷◌}
use Rattle.json5_write.specs.Pieces.{between_quotes}
use Rattle.json5_write.proofs.QuotesWritten.{pushed_stop, pushed_then}
use Rattle.json5_write.proofs.lent.LentJoinedWrite.write_quoted_after.Goals as goal

pub returns-in_err-write_whole : goal.returns-in_err-write_whole
returns-in_err-write_whole g c = pushed_stop _ _ (c.args.mark ∷ []) (between_quotes c.args.text.now) _ _ c.from_residual.ensures.1 c.in_err-write_whole.ensures

pub returns : goal.returns
returns g c = pushed_then _ _ _ (c.args.mark ∷ []) (between_quotes c.args.text.now) _ c.in_ok-write_whole.ensures c.write_between_quotes.ensures
