use Rattle.std.proofs.Common.{◌∙◌, ap, inl, inr, map, sym}
use Rattle.json5_grammar.specs.Model.Collections.{array_of, contents}
use Rattle.json5_de.specs.ConvertLists.{if_some}
use Rattle.json5_de.specs.Refinement.{if_more}
use Rattle.json5_de.proofs.Refinement.{accepted_completes, refused_completes}
use Rattle.json5_settings_types.specs.Bounds.{if_some_element}
use Rattle.json5_settings_types.proofs.ReadTypes.{accepts_map, refused_own}
use Rattle.json5_settings_types.proofs.not_empty.NotEmptyDeserialize.deserialize.Goals as goal

pub returns-in-Err-clause-complete : goal.returns-in-Err-clause-complete
returns-in-Err-clause-complete g c = accepted_completes if_some_element c.in-Err.ensures.reads.complete

pub returns-in-Err-clause-refused : goal.returns-in-Err-clause-refused
returns-in-Err-clause-refused g c = inl c.in-Err.ensures.reads.refused

pub returns-in_default-clause-complete : goal.returns-in_default-clause-complete
returns-in_default-clause-complete g c =
    let none = accepts_map g.T.Deserialize.content c.in-Ok.list.value.items ∙ ap (if_some (map g.T.Deserialize.content)) (sym c.in_default.ensures) in
    refused_completes (array_of (contents g.T.Deserialize.convert)) if_some_element c.in-Ok.ensures.reads.complete none

pub returns-in_default-clause-refused : goal.returns-in_default-clause-refused
returns-in_default-clause-refused g c =
    let none = accepts_map g.T.Deserialize.content c.in-Ok.list.value.items ∙ ap (if_some (map g.T.Deserialize.content)) (sym c.in_default.ensures) in
    inr (refused_own (array_of (contents g.T.Deserialize.convert)) if_some_element c.args.de.now c.deserialize.new.de _ _ _ _ c.in-Ok.ensures.reads.sound c.in-Ok.ensures.spans none c.fault_at.ensures)

pub returns-clause-sound : goal.returns-clause-sound
returns-clause-sound g c =
    let (t, took, is) = c.in-Ok.ensures.reads.sound in
    (t, took, ap (if_more if_some_element) is ∙ accepts_map g.T.Deserialize.content c.in-Ok.list.value.items ∙ ap (if_some (map g.T.Deserialize.content)) (sym c.in-Some.ensures))
