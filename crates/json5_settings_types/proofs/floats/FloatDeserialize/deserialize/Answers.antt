use Rattle.std.proofs.Common.{inr}
use Rattle.json5_de.specs.Convert.{decimal_of}
use Rattle.json5_de.proofs.Refinement.{accepted_completes, refused_completes}
use Rattle.json5_settings_types.specs.Floats.{nearest_if_finite}
use Rattle.json5_settings_types.proofs.FloatsFound.{none_finite}
use Rattle.json5_settings_types.proofs.ReadTypes.{refused_own}
use Rattle.json5_settings_types.proofs.floats.FloatDeserialize.deserialize.Goals as goal

pub returns-in-Err-clause-complete : goal.returns-in-Err-clause-complete
returns-in-Err-clause-complete g c = accepted_completes nearest_if_finite c.in-Err.ensures.reads.complete

pub returns-then-not-is_finite-clause-complete : goal.returns-then-not-is_finite-clause-complete
returns-then-not-is_finite-clause-complete g c =
    let none = none_finite c.in-Ok.read.value c.in-Ok-to_f64.float c.is_finite.result c.in-Ok-to_f64.ensures c.is_finite.ensures.value c.if-not-is_finite.true in
    refused_completes decimal_of nearest_if_finite c.in-Ok.ensures.reads.complete none

pub returns-then-not-is_finite-clause-refused : goal.returns-then-not-is_finite-clause-refused
returns-then-not-is_finite-clause-refused g c =
    let none = none_finite c.in-Ok.read.value c.in-Ok-to_f64.float c.is_finite.result c.in-Ok-to_f64.ensures c.is_finite.ensures.value c.if-not-is_finite.true in
    inr (refused_own decimal_of nearest_if_finite c.args.de.now c.deserialize.new.de _ _ _ _ c.in-Ok.ensures.reads.sound c.in-Ok.ensures.spans none c.fault_at.ensures)
