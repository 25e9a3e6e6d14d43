use Rattle.std.proofs.Common.{◌∙◌, ap, inl, inr, sym}
use Rattle.json5_de.specs.Convert.{text_of}
use Rattle.json5_de.specs.Refinement.{if_more}
use Rattle.json5_de.proofs.Refinement.{accepted_completes, refused_completes}
use Rattle.json5_settings_types.specs.Spellings.{if_spelled}
use Rattle.json5_settings_types.specs.Urls.{url_of}
use Rattle.json5_settings_types.proofs.ReadTypes.{refused_own, spelled_none, spelled_some}
use Rattle.json5_settings_types.proofs.urls.AsSpelledUrlDeserialize.deserialize.Goals as goal

pub returns-in-Err-clause-complete : goal.returns-in-Err-clause-complete
returns-in-Err-clause-complete g c = accepted_completes (if_spelled url_of) c.in-Err.ensures.reads.complete

pub returns-in-Err-clause-refused : goal.returns-in-Err-clause-refused
returns-in-Err-clause-refused g c = inl c.in-Err.ensures.reads.refused

pub returns-in-Ok-None-clause-complete : goal.returns-in-Ok-None-clause-complete
returns-in-Ok-None-clause-complete g c =
    let none = spelled_none url_of _ (sym c.in-Ok-None.field-0-is ∙ c.in-Ok-None.ensures ∙ ap url_of c.as_str.ensures.value) in
    refused_completes text_of (if_spelled url_of) c.in-Ok.ensures.reads.complete none

pub returns-in-Ok-None-clause-refused : goal.returns-in-Ok-None-clause-refused
returns-in-Ok-None-clause-refused g c =
    let none = spelled_none url_of _ (sym c.in-Ok-None.field-0-is ∙ c.in-Ok-None.ensures ∙ ap url_of c.as_str.ensures.value) in
    inr (refused_own text_of (if_spelled url_of) c.args.de.now c.deserialize.new.de _ _ _ _ c.in-Ok.ensures.reads.sound c.in-Ok.ensures.spans none c.not_spelled.ensures)

pub returns-clause-sound : goal.returns-clause-sound
returns-clause-sound g c =
    let (t, took, is) = c.in-Ok.ensures.reads.sound in
    (t, took, ap (if_more (if_spelled url_of)) is ∙ spelled_some url_of _ _ (sym c.in-Ok-Some.field-0-is ∙ c.in-Ok-Some.ensures ∙ ap url_of c.as_str.ensures.value))
