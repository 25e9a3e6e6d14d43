use Rattle.json5_ser.specs.WrittenCollections.{state_of, in_variant}
use Rattle.json5_write.proofs.OutputsJoined.{Writes-handed}
use Rattle.json5_ser.proofs.RemainingOutput.{end_refused, end_in_variant}
use Rattle.json5_ser.proofs.collection.SerializeCollection.end.Goals as goal

pub returns-in_err-close : goal.returns-in_err-close
returns-in_err-close g c =
    Writes-handed _ _ _ _ _ c.from_residual.ensures.1 (end_refused (in_variant c.args.self) _ _ _ (state_of c.args.self) _ _ (rw c.set_failed.ensures at c.in_err-close.ensures))

pub returns : goal.returns
returns g c = end_in_variant (in_variant c.args.self) _ (state_of c.args.self) _ _ _ c.if-not-in_variant.false (rw c.set_failed.ensures at c.in_ok-close.ensures) c.close_after.ensures
