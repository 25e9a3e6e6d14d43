use Rattle.std.proofs.Common.{[], ◌∷◌}
use Rattle.std.specs.Fmt.{decimal}
use Rattle.json5_write.proofs.QuotesWritten.{pushed_stop, pushed_then}
use Rattle.json5_write.proofs.lent.LentJoinedWrite.write_number_after.Goals as goal

pub returns-in_err-write_whole : goal.returns-in_err-write_whole
returns-in_err-write_whole g c = pushed_stop _ _ (c.args.mark ∷ []) (decimal c.args.number) _ _ c.from_residual.ensures.1 c.in_err-write_whole.ensures

pub returns : goal.returns
returns g c =
    let digits = rw (c.as_bytes.ensures.value, c.format.ensures.text) at c.write_whole-2.ensures in
    pushed_then _ _ _ (c.args.mark ∷ []) (decimal c.args.number) _ c.in_ok-write_whole.ensures digits
