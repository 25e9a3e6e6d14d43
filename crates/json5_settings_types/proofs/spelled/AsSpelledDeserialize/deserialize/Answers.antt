use Rattle.std.proofs.Common.{◌∙◌, ap, inl, inr}
use Rattle.json5_de.specs.Convert.{text_of}
use Rattle.json5_de.specs.Refinement.{if_more}
use Rattle.json5_de.proofs.Refinement.{accepted_completes, refused_completes}
use Rattle.json5_settings_types.specs.Spellings.{if_spelled}
use Rattle.json5_settings_types.proofs.ReadTypes.{refused_own, spelled_none, spelled_some}
use Rattle.json5_settings_types.proofs.spelled.AsSpelledDeserialize.deserialize.Goals as goal

pub returns-in-Err-clause-complete : goal.returns-in-Err-clause-complete
returns-in-Err-clause-complete g c = accepted_completes (if_spelled g.T.Spelled.spells) c.in-Err.ensures.reads.complete

pub returns-in-Err-clause-refused : goal.returns-in-Err-clause-refused
returns-in-Err-clause-refused g c = inl c.in-Err.ensures.reads.refused

pub returns-in_default-clause-complete : goal.returns-in_default-clause-complete
returns-in_default-clause-complete g c =
    let none = spelled_none g.T.Spelled.spells _ (c.in_default.ensures ∙ ap g.T.Spelled.spells c.as_str.ensures.value) in
    refused_completes text_of (if_spelled g.T.Spelled.spells) c.in-Ok.ensures.reads.complete none

pub returns-in_default-clause-refused : goal.returns-in_default-clause-refused
returns-in_default-clause-refused g c =
    let none = spelled_none g.T.Spelled.spells _ (c.in_default.ensures ∙ ap g.T.Spelled.spells c.as_str.ensures.value) in
    inr (refused_own text_of (if_spelled g.T.Spelled.spells) c.args.de.now c.deserialize.new.de _ _ _ _ c.in-Ok.ensures.reads.sound c.in-Ok.ensures.spans none c.not_spelled.ensures)

pub returns-clause-sound : goal.returns-clause-sound
returns-clause-sound g c =
    let (t, took, is) = c.in-Ok.ensures.reads.sound in
    (t, took, ap (if_more (if_spelled g.T.Spelled.spells)) is ∙ spelled_some g.T.Spelled.spells _ _ (c.in-Some.ensures ∙ ap g.T.Spelled.spells c.as_str.ensures.value))
