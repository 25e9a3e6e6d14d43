use Rattle.std.proofs.Common.{◌∙◌, ap, inl, inr, sym}
use Rattle.json5_de.specs.Convert.{text_of}
use Rattle.json5_de.specs.Refinement.{if_more}
use Rattle.json5_de.proofs.Refinement.{accepted_completes, refused_completes}
use Rattle.json5_settings_types.specs.Paths.{if_path}
use Rattle.json5_settings_types.proofs.ReadTypes.{refused_own}
use Rattle.json5_settings_types.proofs.paths.FilePathDeserialize.deserialize.Goals as goal

pub returns-in-Err-clause-complete : goal.returns-in-Err-clause-complete
returns-in-Err-clause-complete g c = accepted_completes if_path c.in-Err.ensures.reads.complete

pub returns-in-Err-clause-refused : goal.returns-in-Err-clause-refused
returns-in-Err-clause-refused g c = inl c.in-Err.ensures.reads.refused

pub returns-in_default-clause-complete : goal.returns-in_default-clause-complete
returns-in_default-clause-complete g c = refused_completes text_of if_path c.in-Ok.ensures.reads.complete (sym c.in_default.ensures)

pub returns-in_default-clause-refused : goal.returns-in_default-clause-refused
returns-in_default-clause-refused g c = inr (refused_own text_of if_path c.args.de.now c.deserialize.new.de _ _ _ _ c.in-Ok.ensures.reads.sound c.in-Ok.ensures.spans (sym c.in_default.ensures) c.fault_at.ensures)

pub returns-clause-sound : goal.returns-clause-sound
returns-clause-sound g c =
    let (t, took, is) = c.in-Ok.ensures.reads.sound in
    (t, took, ap (if_more if_path) is ∙ sym c.in-Some.ensures)
