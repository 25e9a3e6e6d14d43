use Rattle.std.proofs.Common.{◌∙◌, ap, refl, rules}
use Rattle.std.proofs.lemmas.Bool.{false≢true}
use Rattle.json5_de.specs.Objects.{MapAccessState}
use Rattle.json5_de.specs.StructFaults.{or_of}
use Rattle.json5_de.proofs.Structs.{struct_read, unopened_completes, fields_complete, fields_unprompted, end_completes, still}
use Rattle.json5_de.proofs.StructFaults.{unopened, pairs_refused, closes_there}
use Rattle.json5_fields.proofs.DescribedFaults.{gives_exactly, in_its_fields, refuses_exactly, unfinished_completes, unfinished_refused}
use Rattle.json5_settings_types.specs.Keys.{members_of}
use Rattle.json5_settings_types.specs.Rest.{of_others, rest_plan}
use Rattle.json5_settings_types.proofs.RestRead.{unfinished, whole_rest}
use Rattle.json5_settings_types.proofs.rest.read_struct_rest.Goals as goal

pub returns-in_err-map : goal.returns-in_err-map
returns-in_err-map g c =
    let l = g.F.StructFields.layout (g.F.StructFields.shape c.args.fields) in
    let faults = or_of g.F.StructFields.faults (of_others g.T.Deserialize.convert g.T.Deserialize.refuses) in
    refuses_exactly _ _ c.from_residual.ensures.1
    (unopened_completes (whole_rest l g.T.Deserialize.convert c.requires).convert _ _ c.from_residual.ensures.1 c.in_err-map.ensures.opens)
    (λ t r d live reads shallow is spare. absurd (false≢true spare))
    (in_its_fields (rest_plan l g.T.Deserialize.convert) faults c.args.de.now c.from_residual.result (unopened (rest_plan l g.T.Deserialize.convert) faults _ _ c.from_residual.ensures.1 c.in_err-map.ensures.opens.bracket.refused))
    (search rules)
    (search rules)

pub returns-in_err-read_fields : goal.returns-in_err-read_fields
returns-in_err-read_fields g c =
    let l = g.F.StructFields.layout (g.F.StructFields.shape c.args.fields) in
    let faults = or_of g.F.StructFields.faults (of_others g.T.Deserialize.convert g.T.Deserialize.refuses) in
    let reads = rw (c.start.ensures.same, c.start.ensures.none, c.new-values.ensures.empty) at c.in_err-read_fields.ensures.reads in
    let refused = rw (c.start.ensures.same, c.start.ensures.none, c.new-values.ensures.empty) at c.in_err-read_fields.ensures.refused in
    refuses_exactly _ _ c.from_residual-in_err-read_fields.ensures.1
    (fields_complete (whole_rest l g.T.Deserialize.convert c.requires) c.in_ok-map.map c.in_ok-map.ensures.opens _ _ c.from_residual-in_err-read_fields.ensures.1 reads)
    (λ t r d live reads shallow is spare. absurd (false≢true spare))
    (in_its_fields (rest_plan l g.T.Deserialize.convert) faults c.args.de.now c.from_residual-in_err-read_fields.result (pairs_refused (rest_plan l g.T.Deserialize.convert) faults _ _ c.from_residual-in_err-read_fields.ensures.1 c.in_ok-map.map c.in_ok-map.ensures.opens refused))
    (fields_unprompted (whole_rest l g.T.Deserialize.convert c.requires) c.in_ok-map.map c.in_ok-map.ensures.opens _ _ c.from_residual-in_err-read_fields.ensures.1 reads)
    (search rules)

pub returns-in_err-output : goal.returns-in_err-output
returns-in_err-output g c =
    let l = g.F.StructFields.layout (g.F.StructFields.shape c.args.fields) in
    let faults = or_of g.F.StructFields.faults (of_others g.T.Deserialize.convert g.T.Deserialize.refuses) in
    let reads = rw (c.start.ensures.same, c.start.ensures.none, c.new-values.ensures.empty) at c.in_ok-read_fields.ensures.reads in
    let missing = c.in_err-output.ensures.finishes.missing c.in_ok-read_fields.ensures.reads.live in
    let end = c.read_fields.new.fields in
    let none = unfinished (g.F.StructFields.layout (g.F.StructFields.kept end.reading)) (g.F.StructFields.state end.reading) (members_of g.T.Deserialize.content end.rest.values.entries) c.in_err-output.field-0.0 missing.0 in
    refuses_exactly _ _ c.from_residual-in_err-output.ensures.1
    (unfinished_completes (whole_rest l g.T.Deserialize.convert c.requires) c.in_ok-map.map c.in_ok-map.ensures.opens _ _ c.from_residual-in_err-output.ensures.1 reads none)
    (λ t r d live reads shallow is spare. absurd (false≢true spare))
    (unfinished_refused (rest_plan l g.T.Deserialize.convert) faults _ _ c.from_residual-in_err-output.ensures.1 c.in_ok-map.map c.in_ok-map.ensures.opens c.in_ok-read_fields.ensures.access reads none missing.1)
    (search rules)
    (search rules)

pub returns-in_err-end : goal.returns-in_err-end
returns-in_err-end g c =
    let l = g.F.StructFields.layout (g.F.StructFields.shape c.args.fields) in
    let reads = rw (c.start.ensures.same, c.start.ensures.none, c.new-values.ensures.empty) at c.in_ok-read_fields.ensures.reads in
    let same = c.in_ok-output.ensures.finishes.same in
    refuses_exactly _ _ c.from_residual-in_err-end.ensures.1
    (end_completes (whole_rest l g.T.Deserialize.convert c.requires) c.in_ok-map.map c.in_ok-map.ensures.opens _ _ c.from_residual-in_err-end.ensures.1 (still same reads) (λ r left. (c.in_err-end.ensures.alone (search rules)).left r (ap (λ (m : MapAccessState). m.pending) same ∙ c.in_ok-read_fields.ensures.pending) left))
    (λ t r d live reads shallow is spare. absurd (false≢true spare))
    (closes_there (still c.in_ok-output.ensures.finishes.same c.in_ok-read_fields.ensures.reads) (c.in_err-end.ensures.alone (search rules)))
    (search rules)
    (search rules)

pub returns : goal.returns
returns g c =
    let l = g.F.StructFields.layout (g.F.StructFields.shape c.args.fields) in
    let reads = rw (c.start.ensures.same, c.start.ensures.none, c.new-values.ensures.empty) at c.in_ok-read_fields.ensures.reads in
    gives_exactly _ (struct_read (whole_rest l g.T.Deserialize.convert c.requires) c.in_ok-map.map c.in_ok-map.ensures.opens (still c.in_ok-output.ensures.finishes.same reads) (search rules) (c.in_ok-end.ensures.alone (search rules)).read (rw c.in_ok-output.ensures.finishes.built refl)) (search rules)
