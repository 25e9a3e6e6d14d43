use Rattle.std.proofs.Common.{◌∙◌, ap, refl, rules, subst, sym}
use Rattle.json5_de.specs.DeserializeLaw.{Completes}
use Rattle.json5_de.specs.StructFaults.{or_of}
use Rattle.json5_de.proofs.Structs.{struct_read, unopened_completes, fields_complete, fields_unprompted, end_completes}
use Rattle.json5_de.proofs.StructFaults.{closes_there, pairs_refused}
use Rattle.json5_fields.specs.FieldCalls.{of_type}
use Rattle.json5_settings_types.specs.Keys.{of_memory}
use Rattle.json5_settings_types.proofs.KeysOnce.{its_faults, key_plan, same_convert}
use Rattle.json5_settings_types.proofs.unique_keys.UniqueKeysDeserialize.deserialize.Goals as goal

pub returns-in_err-map-clause-complete : goal.returns-in_err-map-clause-complete
returns-in_err-map-clause-complete g c =
    let plan = key_plan g.V.Deserialize.convert in
    subst (λ f. Completes f c.args.de.now c.from_residual.result) (same_convert g.V.Deserialize.convert) (unopened_completes plan.convert _ _ c.from_residual.ensures.1 c.in_err-map.ensures.opens)

pub returns-in_err-read_fields-clause-complete : goal.returns-in_err-read_fields-clause-complete
returns-in_err-read_fields-clause-complete g c =
    let reads = rw c.new-values.ensures.empty at c.in_err-read_fields.ensures.reads in
    subst (λ f. Completes f c.args.de.now c.from_residual-in_err-read_fields.result) (same_convert g.V.Deserialize.convert)
    (fields_complete (key_plan g.V.Deserialize.convert) c.in_ok-map.map c.in_ok-map.ensures.opens _ _ c.from_residual-in_err-read_fields.ensures.1 reads)

pub returns-in_err-read_fields-clause-refused : goal.returns-in_err-read_fields-clause-refused
returns-in_err-read_fields-clause-refused g c =
    let refused = rw c.new-values.ensures.empty at c.in_err-read_fields.ensures.refused in
    let faults = or_of (of_type g.V.Deserialize.convert g.V.Deserialize.refuses) of_memory in
    its_faults g.V.Deserialize.convert g.V.Deserialize.refuses c.args.de.now c.args.de.now c.from_residual-in_err-read_fields.result
    (pairs_refused (key_plan g.V.Deserialize.convert) faults _ _ c.from_residual-in_err-read_fields.ensures.1 c.in_ok-map.map c.in_ok-map.ensures.opens refused)

pub returns-in_err-read_fields-clause-unprompted : goal.returns-in_err-read_fields-clause-unprompted
returns-in_err-read_fields-clause-unprompted g c =
    let reads = rw c.new-values.ensures.empty at c.in_err-read_fields.ensures.reads in
    fields_unprompted (key_plan g.V.Deserialize.convert) c.in_ok-map.map c.in_ok-map.ensures.opens _ _ c.from_residual-in_err-read_fields.ensures.1 reads

pub returns-in_err-end-clause-complete : goal.returns-in_err-end-clause-complete
returns-in_err-end-clause-complete g c =
    let reads = rw c.new-values.ensures.empty at c.in_ok-read_fields.ensures.reads in
    subst (λ f. Completes f c.args.de.now c.from_residual-in_err-end.result) (same_convert g.V.Deserialize.convert)
    (end_completes (key_plan g.V.Deserialize.convert) c.in_ok-map.map c.in_ok-map.ensures.opens _ _ c.from_residual-in_err-end.ensures.1 reads (λ r left. (c.in_err-end.ensures.alone (search rules)).left r c.in_ok-read_fields.ensures.pending left))

pub returns-in_err-end-clause-refused : goal.returns-in_err-end-clause-refused
returns-in_err-end-clause-refused g c = closes_there c.in_ok-read_fields.ensures.reads (c.in_err-end.ensures.alone (search rules))

pub returns-clause-sound : goal.returns-clause-sound
returns-clause-sound g c =
    let reads = rw c.new-values.ensures.empty at c.in_ok-read_fields.ensures.reads in
    let (t, took, is) = struct_read (key_plan g.V.Deserialize.convert) c.in_ok-map.map c.in_ok-map.ensures.opens reads (search rules) (c.in_ok-end.ensures.alone (search rules)).read refl in
    (t, took, sym (ap (λ f. f t) (same_convert g.V.Deserialize.convert)) ∙ is)
