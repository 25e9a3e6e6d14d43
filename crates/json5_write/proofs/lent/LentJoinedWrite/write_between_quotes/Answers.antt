use Rattle.std.proofs.Common.{[], ◌∷◌, ◌++◌}
use Rattle.json5_write.proofs.QuotesWritten.{pushed_stop, pushed_then}
use Rattle.json5_write.proofs.lent.LentJoinedWrite.write_between_quotes.Goals as goal

pub returns-in_err-write_whole : goal.returns-in_err-write_whole
returns-in_err-write_whole g c = pushed_stop _ _ (34 ∷ []) (c.args.text.now ++ 34 ∷ []) _ _ c.from_residual.ensures.1 c.in_err-write_whole.ensures

pub returns-in_err-write_whole-2 : goal.returns-in_err-write_whole-2
returns-in_err-write_whole-2 g c =
    pushed_then _ _ _ (34 ∷ []) (c.args.text.now ++ 34 ∷ []) _ c.in_ok-write_whole.ensures
    (pushed_stop _ _ c.args.text.now (34 ∷ []) _ _ c.from_residual-in_err-write_whole-2.ensures.1 c.in_err-write_whole-2.ensures)

pub returns : goal.returns
returns g c =
    pushed_then _ _ _ (34 ∷ []) (c.args.text.now ++ 34 ∷ []) _ c.in_ok-write_whole.ensures
    (pushed_then _ _ _ c.args.text.now (34 ∷ []) _ c.in_ok-write_whole-2.ensures c.write_whole-3.ensures)
