use Rattle.std.proofs.Common.{rules, refl, ◌∙◌}
use Rattle.json5.proofs.Structs.{struct_read, unopened_completes, fields_complete, fields_unprompted, missing_completes, end_completes, still}
use Rattle.rows.specs.OwnStructs.{letters}
use Rattle.rows.proofs.own_structs.LettersDeserialize.deserialize.Goals as goal

pub returns-in_err-map-clause-complete : goal.returns-in_err-map-clause-complete
returns-in_err-map-clause-complete g c = unopened_completes letters.convert _ _ c.from_residual.ensures.1 c.in_err-map.ensures.opens

pub returns-in_err-read_fields-clause-complete : goal.returns-in_err-read_fields-clause-complete
returns-in_err-read_fields-clause-complete g c = fields_complete letters c.in_ok-map.map c.in_ok-map.ensures.opens _ _ c.from_residual-in_err-read_fields.ensures.1 c.in_err-read_fields.ensures.reads

pub returns-in_err-a-clause-complete : goal.returns-in_err-a-clause-complete
returns-in_err-a-clause-complete g c = missing_completes letters c.in_ok-map.map c.in_ok-map.ensures.opens _ _ c.from_residual-in_err-a.ensures.1 c.in_ok-read_fields.ensures.reads (rw (c.in_err-a.ensures.value.missing c.in_ok-read_fields.ensures.reads.live).0 refl)

pub returns-in_err-b-clause-complete : goal.returns-in_err-b-clause-complete
returns-in_err-b-clause-complete g c =
    let reads = still c.in_ok-a.ensures.value.same c.in_ok-read_fields.ensures.reads in
    missing_completes letters c.in_ok-map.map c.in_ok-map.ensures.opens _ _ c.from_residual-in_err-b.ensures.1 reads (rw (c.in_ok-a.ensures.found, (c.in_err-b.ensures.value.missing reads.live).0) refl)

pub returns-in_err-end-clause-complete : goal.returns-in_err-end-clause-complete
returns-in_err-end-clause-complete g c =
    end_completes letters c.in_ok-map.map c.in_ok-map.ensures.opens _ _ c.from_residual-in_err-end.ensures.1 (still c.in_ok-b.ensures.value.same (still c.in_ok-a.ensures.value.same c.in_ok-read_fields.ensures.reads))
    (λ r left. (c.in_err-end.ensures.alone (search rules)).left r (c.in_ok-b.ensures.value.pending ∙ c.in_ok-a.ensures.value.pending ∙ c.in_ok-read_fields.ensures.pending) left)

pub returns-clause-sound : goal.returns-clause-sound
returns-clause-sound g c =
    struct_read letters c.in_ok-map.map c.in_ok-map.ensures.opens (still c.in_ok-b.ensures.value.same (still c.in_ok-a.ensures.value.same c.in_ok-read_fields.ensures.reads)) (search rules) (c.in_ok-end.ensures.alone (search rules)).read
    (rw (c.in_ok-a.ensures.found, c.in_ok-b.ensures.found) refl)

pub returns-in_err-read_fields-clause-unprompted : goal.returns-in_err-read_fields-clause-unprompted
returns-in_err-read_fields-clause-unprompted g c = fields_unprompted letters c.in_ok-map.map c.in_ok-map.ensures.opens _ _ c.from_residual-in_err-read_fields.ensures.1 c.in_err-read_fields.ensures.reads
