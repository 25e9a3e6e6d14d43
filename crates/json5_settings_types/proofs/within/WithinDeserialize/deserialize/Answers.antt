use Rattle.std.proofs.Common.{◌≡◌, ◌∙◌, FitsSigned, of_z, to_z, w64, ap, inl, inr, sym, arith, rules}
use Rattle.std.proofs.lemmas.Int.{ints}
use Rattle.std.specs.Prelude.{◌^◌}
use Rattle.json5_de.specs.Convert.{signed_below}
use Rattle.json5_de.specs.Refinement.{if_more}
use Rattle.json5_de.proofs.Refinement.{accepted_completes, refused_completes}
use Rattle.json5_settings_types.specs.Bounds.{if_within}
use Rattle.json5_settings_types.proofs.ReadTypes.{refused_own}
use Rattle.json5_settings_types.proofs.within.WithinDeserialize.deserialize.Goals as goal

pub returns-in-Err-clause-complete : goal.returns-in-Err-clause-complete
returns-in-Err-clause-complete g c = accepted_completes (if_within (to_z w64 g.row.LOW) (to_z w64 g.row.HIGH)) c.in-Err.ensures.reads.complete

pub returns-in-Err-clause-refused : goal.returns-in-Err-clause-refused
returns-in-Err-clause-refused g c = inl c.in-Err.ensures.reads.refused

pub returns-in_default-clause-complete : goal.returns-in_default-clause-complete
returns-in_default-clause-complete g c =
    let fits : FitsSigned w64 c.in-Ok.read.value = search rules in
    let same : c.in-Ok.read.value ≡ to_z w64 (of_z w64 c.in-Ok.read.value) = omega (arith, ints, fits) in
    refused_completes (signed_below (2 ^ 63)) (if_within (to_z w64 g.row.LOW) (to_z w64 g.row.HIGH)) c.in-Ok.ensures.reads.complete (ap (if_within (to_z w64 g.row.LOW) (to_z w64 g.row.HIGH)) same ∙ sym c.in_default.ensures)

pub returns-in_default-clause-refused : goal.returns-in_default-clause-refused
returns-in_default-clause-refused g c =
    let fits : FitsSigned w64 c.in-Ok.read.value = search rules in
    let same : c.in-Ok.read.value ≡ to_z w64 (of_z w64 c.in-Ok.read.value) = omega (arith, ints, fits) in
    let none = ap (if_within (to_z w64 g.row.LOW) (to_z w64 g.row.HIGH)) same ∙ sym c.in_default.ensures in
    inr (refused_own (signed_below (2 ^ 63)) (if_within (to_z w64 g.row.LOW) (to_z w64 g.row.HIGH)) c.args.de.now c.deserialize.new.de _ _ _ _ c.in-Ok.ensures.reads.sound c.in-Ok.ensures.spans none c.fault_at.ensures)

pub returns-clause-sound : goal.returns-clause-sound
returns-clause-sound g c =
    let (t, took, is) = c.in-Ok.ensures.reads.sound in
    let fits : FitsSigned w64 c.in-Ok.read.value = search rules in
    let same : c.in-Ok.read.value ≡ to_z w64 (of_z w64 c.in-Ok.read.value) = omega (arith, ints, fits) in
    (t, took, ap (if_more (if_within (to_z w64 g.row.LOW) (to_z w64 g.row.HIGH))) is ∙ ap (if_within (to_z w64 g.row.LOW) (to_z w64 g.row.HIGH)) same ∙ sym c.in-Some.ensures)
