use Rattle.json5_de.specs.Lending.{map_state_of}
use Rattle.json5_de.proofs.ElementLoops.{handed_on}
use Rattle.json5_fields.specs.Layouts.{and_layout}
use Rattle.json5_fields.specs.Spares.{spares_both, FinishesFree}
use Rattle.json5_fields.proofs.Described.{both_finish, first_missed, first_unmade, others_missed, others_unmade, missed}
use Rattle.json5_fields.proofs.tuples.Tuple2StructFields.finish.Goals as goal

pub returns-in_err-first-clause-finishes : goal.returns-in_err-first-clause-finishes
returns-in_err-first-clause-finishes g c = missed (and_layout (g.A.StructFields.layout (g.A.StructFields.kept c.args.fields.0)) (g.B.StructFields.layout (g.B.StructFields.kept c.args.fields.1))) _ _ c.from_residual.result c.from_residual.ensures.1 (first_missed (g.A.StructFields.layout (g.A.StructFields.kept c.args.fields.0)) (g.B.StructFields.layout (g.B.StructFields.kept c.args.fields.1)) c.in_err-first.ensures.finishes)

pub returns-in_err-second-clause-finishes : goal.returns-in_err-second-clause-finishes
returns-in_err-second-clause-finishes g c = missed (and_layout (g.A.StructFields.layout (g.A.StructFields.kept c.args.fields.0)) (g.B.StructFields.layout (g.B.StructFields.kept c.args.fields.1))) _ _ c.from_residual-in_err-second.result c.from_residual-in_err-second.ensures.1 (others_missed (g.A.StructFields.layout (g.A.StructFields.kept c.args.fields.0)) (g.B.StructFields.layout (g.B.StructFields.kept c.args.fields.1)) c.in_ok-first.ensures.finishes c.in_err-second.ensures.finishes)

pub returns-clause-finishes : goal.returns-clause-finishes
returns-clause-finishes g c = both_finish (g.A.StructFields.layout (g.A.StructFields.kept c.args.fields.0)) (g.B.StructFields.layout (g.B.StructFields.kept c.args.fields.1)) c.in_ok-first.ensures.finishes c.in_ok-second.ensures.finishes

pub returns-in_err-first-clause-no_memory : goal.returns-in_err-first-clause-no_memory
returns-in_err-first-clause-no_memory g c =
    handed_on (λ r. FinishesFree (spares_both g.A.StructFields.allocation_free g.B.StructFields.allocation_free).defaults (and_layout (g.A.StructFields.layout (g.A.StructFields.kept c.args.fields.0)) (g.B.StructFields.layout (g.B.StructFields.kept c.args.fields.1))) (g.A.StructFields.state c.args.fields.0, g.B.StructFields.state c.args.fields.1) (map_state_of c.args.map.now) r) _ _ c.from_residual.ensures.1
    (first_unmade (g.A.StructFields.layout (g.A.StructFields.kept c.args.fields.0)) (g.B.StructFields.layout (g.B.StructFields.kept c.args.fields.1)) g.A.StructFields.allocation_free g.B.StructFields.allocation_free (g.A.StructFields.state c.args.fields.0) (g.B.StructFields.state c.args.fields.1) (map_state_of c.args.map.now) c.in_err-first.ensures.no_memory)

pub returns-in_err-second-clause-no_memory : goal.returns-in_err-second-clause-no_memory
returns-in_err-second-clause-no_memory g c =
    handed_on (λ r. FinishesFree (spares_both g.A.StructFields.allocation_free g.B.StructFields.allocation_free).defaults (and_layout (g.A.StructFields.layout (g.A.StructFields.kept c.args.fields.0)) (g.B.StructFields.layout (g.B.StructFields.kept c.args.fields.1))) (g.A.StructFields.state c.args.fields.0, g.B.StructFields.state c.args.fields.1) (map_state_of c.args.map.now) r) _ _ c.from_residual-in_err-second.ensures.1
    (others_unmade (g.A.StructFields.layout (g.A.StructFields.kept c.args.fields.0)) (g.B.StructFields.layout (g.B.StructFields.kept c.args.fields.1)) g.A.StructFields.allocation_free g.B.StructFields.allocation_free (g.A.StructFields.state c.args.fields.0) (g.B.StructFields.state c.args.fields.1) (map_state_of c.args.map.now) _ c.in_ok-first.ensures.finishes.same c.in_err-second.ensures.no_memory)
