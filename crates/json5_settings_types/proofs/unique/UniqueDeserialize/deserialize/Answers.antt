use Rattle.std.proofs.Common.{◌∙◌, ap, inr}
use Rattle.json5_grammar.specs.Model.Collections.{array_of, contents}
use Rattle.json5_de.specs.Refinement.{if_more}
use Rattle.json5_de.proofs.Refinement.{accepted_completes, refused_completes}
use Rattle.json5_settings_types.specs.Twins.{if_no_twins}
use Rattle.json5_settings_types.proofs.Meanings.{lists_mean, means_content, means_for_memory}
use Rattle.json5_settings_types.proofs.ReadTypes.{refused_own, twin_missed, twins_none, twins_some}
use Rattle.json5_settings_types.proofs.TwinsSeen.{told}
use Rattle.json5_settings_types.proofs.unique.UniqueDeserialize.deserialize.Goals as goal

pub returns-in-Err-clause-complete : goal.returns-in-Err-clause-complete
returns-in-Err-clause-complete g c =
    accepted_completes (if_no_twins g.T.TellsApart.same)
    (means_for_memory g.T.Deserialize.content g.T.Deserialize.convert g.T.TellsApart.meaning g.T.TellsApart.means g.met.T.TellsApart.is_read c.args.de.now c.in-Err.e c.in-Err.ensures.reads.complete)

pub returns-in-Some-clause-complete : goal.returns-in-Some-clause-complete
returns-in-Some-clause-complete g c =
    let vs = c.in-Ok.list.value.items in
    let twins = told g.T.TellsApart.same g.T.PartialEq.eq g.T.TellsApart.meaning g.met.T.TellsApart.tells vs ∙ rw (c.as_slice.ensures.value, c.in-Some.is) at c.in-Ok-first_twin.ensures in
    refused_completes (array_of (contents g.T.TellsApart.means)) (if_no_twins g.T.TellsApart.same)
    (means_content g.T.Deserialize.content g.T.Deserialize.convert g.T.TellsApart.meaning g.T.TellsApart.means g.met.T.TellsApart.is_read g.met.T.TellsApart.reads c.args.de.now vs c.in-Ok.ensures.reads.complete)
    (twins_none g.T.TellsApart.same _ twins)

pub returns-in-Some-clause-refused : goal.returns-in-Some-clause-refused
returns-in-Some-clause-refused g c =
    let vs = c.in-Ok.list.value.items in
    let twins = told g.T.TellsApart.same g.T.PartialEq.eq g.T.TellsApart.meaning g.met.T.TellsApart.tells vs ∙ rw (c.as_slice.ensures.value, c.in-Some.is) at c.in-Ok-first_twin.ensures in
    let (t, took, is) = c.in-Ok.ensures.reads.sound in
    let means = lists_mean g.T.Deserialize.content g.T.Deserialize.convert g.T.TellsApart.meaning g.T.TellsApart.means g.met.T.TellsApart.reads t vs is in
    inr (refused_own (array_of (contents g.T.TellsApart.means)) (if_no_twins g.T.TellsApart.same) c.args.de.now c.deserialize.new.de _ _ _ _ (t, took, means) c.in-Ok.ensures.spans (twins_none g.T.TellsApart.same _ twins) c.fault_at.ensures)

pub returns-clause-sound : goal.returns-clause-sound
returns-clause-sound g c =
    let vs = c.in-Ok.list.value.items in
    let (t, took, is) = c.in-Ok.ensures.reads.sound in
    let means = lists_mean g.T.Deserialize.content g.T.Deserialize.convert g.T.TellsApart.meaning g.T.TellsApart.means g.met.T.TellsApart.reads t vs is in
    let differ = told g.T.TellsApart.same g.T.PartialEq.eq g.T.TellsApart.meaning g.met.T.TellsApart.tells vs ∙ twin_missed g.T.PartialEq.eq vs c.in-Ok-first_twin.twin (rw c.as_slice.ensures.value at c.in-Ok-first_twin.ensures) c.in_default.not-Some in
    (t, took, ap (if_more (if_no_twins g.T.TellsApart.same)) means ∙ twins_some g.T.TellsApart.same _ differ)
