use Rattle.std.proofs.Common.{rules, ap, ◌∙◌}
use Rattle.json5_de.specs.Objects.{MapAccessState}
use Rattle.json5_de.specs.StructFaults.{or_of, of_any}
use Rattle.json5_de.proofs.Structs.{struct_read, unopened_completes, fields_complete, fields_unprompted, end_completes, still}
use Rattle.json5_de.proofs.StructFaults.{unopened, pairs_refused, closes_there}
use Rattle.json5_fields.specs.Layouts.{whole_plan, held_plan}
use Rattle.json5_fields.proofs.DescribedFaults.{closed_free, finished_free, gives_exactly, in_its_fields, opened_free, read_free, refuses_exactly, unfinished_completes, unfinished_refused}
use Rattle.json5_fields.proofs.objects.read_struct.Goals as goal

pub returns-in_err-map : goal.returns-in_err-map
returns-in_err-map g c =
    let l = g.F.StructFields.layout (g.F.StructFields.shape c.args.fields) in
    refuses_exactly _ _ c.from_residual.ensures.1
    (unopened_completes l.convert _ _ c.from_residual.ensures.1 c.in_err-map.ensures.opens)
    (opened_free (whole_plan l c.requires) g.F.StructFields.allocation_free _ _ c.from_residual.ensures.1 c.in_err-map.ensures.opens)
    (in_its_fields (held_plan l) (or_of g.F.StructFields.faults of_any) c.args.de.now c.from_residual.result (unopened (held_plan l) (or_of g.F.StructFields.faults of_any) _ _ c.from_residual.ensures.1 c.in_err-map.ensures.opens.bracket.refused))
    (search rules)
    (search rules)

pub returns-in_err-read_fields : goal.returns-in_err-read_fields
returns-in_err-read_fields g c =
    let l = g.F.StructFields.layout (g.F.StructFields.shape c.args.fields) in
    let reads = rw (c.start-reading.ensures.same, c.start-reading.ensures.none) at c.in_err-read_fields.ensures.reads in
    let free = rw (c.start-reading.ensures.same, c.start-reading.ensures.none) at c.in_err-read_fields.ensures.no_memory in
    let refused = rw (c.start-reading.ensures.same, c.start-reading.ensures.none) at c.in_err-read_fields.ensures.refused in
    refuses_exactly _ _ c.from_residual-in_err-read_fields.ensures.1
    (fields_complete (whole_plan l c.requires) c.in_ok-map.map c.in_ok-map.ensures.opens _ _ c.from_residual-in_err-read_fields.ensures.1 reads)
    (read_free (whole_plan l c.requires) g.F.StructFields.allocation_free _ _ c.from_residual-in_err-read_fields.ensures.1 c.in_ok-map.map c.in_ok-map.ensures.opens free)
    (in_its_fields (held_plan l) (or_of g.F.StructFields.faults of_any) c.args.de.now c.from_residual-in_err-read_fields.result (pairs_refused (held_plan l) (or_of g.F.StructFields.faults of_any) _ _ c.from_residual-in_err-read_fields.ensures.1 c.in_ok-map.map c.in_ok-map.ensures.opens refused))
    (fields_unprompted (whole_plan l c.requires) c.in_ok-map.map c.in_ok-map.ensures.opens _ _ c.from_residual-in_err-read_fields.ensures.1 reads)
    (search rules)

pub returns-in_err-output : goal.returns-in_err-output
returns-in_err-output g c =
    let l = g.F.StructFields.layout (g.F.StructFields.shape c.args.fields) in
    let reads = rw (c.start-reading.ensures.same, c.start-reading.ensures.none) at c.in_ok-read_fields.ensures.reads in
    let missing = c.in_err-output.ensures.finishes.missing c.in_ok-read_fields.ensures.reads.live in
    refuses_exactly _ _ c.from_residual-in_err-output.ensures.1
    (unfinished_completes (whole_plan l c.requires) c.in_ok-map.map c.in_ok-map.ensures.opens _ _ c.from_residual-in_err-output.ensures.1 reads (c.in_err-output.ensures.finishes.missing c.in_ok-read_fields.ensures.reads.live).0)
    (finished_free (whole_plan l c.requires) g.F.StructFields.allocation_free _ _ c.from_residual-in_err-output.ensures.1 c.in_ok-map.map c.in_ok-map.ensures.opens reads (λ d spare built. c.in_err-output.ensures.no_memory d spare c.in_ok-read_fields.ensures.reads.live built))
    (unfinished_refused (held_plan l) (or_of g.F.StructFields.faults of_any) _ _ c.from_residual-in_err-output.ensures.1 c.in_ok-map.map c.in_ok-map.ensures.opens c.in_ok-read_fields.ensures.access reads missing.0 missing.1)
    (search rules)
    (search rules)

pub returns-in_err-end : goal.returns-in_err-end
returns-in_err-end g c =
    let l = g.F.StructFields.layout (g.F.StructFields.shape c.args.fields) in
    let reads = rw (c.start-reading.ensures.same, c.start-reading.ensures.none) at c.in_ok-read_fields.ensures.reads in
    let same = c.in_ok-output.ensures.finishes.same in
    refuses_exactly _ _ c.from_residual-in_err-end.ensures.1
    (end_completes (whole_plan l c.requires) c.in_ok-map.map c.in_ok-map.ensures.opens _ _ c.from_residual-in_err-end.ensures.1 (still same reads) (λ r left. (c.in_err-end.ensures.alone (search rules)).left r (ap (λ (m : MapAccessState). m.pending) same ∙ c.in_ok-read_fields.ensures.pending) left))
    (closed_free (whole_plan l c.requires) g.F.StructFields.allocation_free _ _ c.from_residual-in_err-end.ensures.1 c.in_ok-map.map c.in_ok-map.ensures.opens (still same reads) (λ r left. (c.in_err-end.ensures.alone (search rules)).left r (ap (λ (m : MapAccessState). m.pending) same ∙ c.in_ok-read_fields.ensures.pending) left))
    (closes_there (still c.in_ok-output.ensures.finishes.same c.in_ok-read_fields.ensures.reads) (c.in_err-end.ensures.alone (search rules)))
    (search rules)
    (search rules)

pub returns : goal.returns
returns g c =
    let l = g.F.StructFields.layout (g.F.StructFields.shape c.args.fields) in
    let reads = rw (c.start-reading.ensures.same, c.start-reading.ensures.none) at c.in_ok-read_fields.ensures.reads in
    gives_exactly _ (struct_read (whole_plan l c.requires) c.in_ok-map.map c.in_ok-map.ensures.opens (still c.in_ok-output.ensures.finishes.same reads) (search rules) (c.in_ok-end.ensures.alone (search rules)).read c.in_ok-output.ensures.finishes.built) (search rules)
