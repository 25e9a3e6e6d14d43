use Rattle.json5.specs.Keys.{CompletesKey}
use Rattle.json5.specs.Lending.{reader_of_key}
use Rattle.json5.proofs.ElementLoops.{handed_on}
use Rattle.json5.proofs.Refinement.{accepted_key_completes}
use Rattle.test_own_types.specs.Accepted.{color_at, color_named}
use Rattle.test_own_types.proofs.colors.ColorDeserializeKey.deserialize_key.Goals as goal

pub returns-in_err-place-clause-complete : goal.returns-in_err-place-clause-complete
returns-in_err-place-clause-complete g c =
    handed_on (λ r. CompletesKey color_named (reader_of_key c.args.key.now) r) _ _ c.from_residual.ensures.1 (accepted_key_completes color_at c.in_err-place.ensures.reads.complete)
