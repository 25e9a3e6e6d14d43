use Rattle.json5_de.specs.Lending.{map_state_of}
use Rattle.json5_fields.proofs.Described.{first_free, first_here, others_try, others_try_free}
use Rattle.json5_fields.proofs.tuples.Tuple2StructFields.read.Goals as goal

pub returns-in-Ok-true-clause-tries : goal.returns-in-Ok-true-clause-tries
returns-in-Ok-true-clause-tries g c = first_here (g.A.StructFields.layout (g.A.StructFields.kept c.args.fields.now.0)) (g.B.StructFields.layout (g.B.StructFields.kept c.args.fields.now.1)) g.A.StructFields.faults g.B.StructFields.faults (rw c.in-Ok-true.field-0-test at c.in-Ok-true.ensures.tries)

pub returns-in-Err-clause-tries : goal.returns-in-Err-clause-tries
returns-in-Err-clause-tries g c = first_here (g.A.StructFields.layout (g.A.StructFields.kept c.args.fields.now.0)) (g.B.StructFields.layout (g.B.StructFields.kept c.args.fields.now.1)) g.A.StructFields.faults g.B.StructFields.faults c.in-Err.ensures.tries

pub returns-clause-tries : goal.returns-clause-tries
returns-clause-tries g c = others_try (g.A.StructFields.layout (g.A.StructFields.kept c.args.fields.now.0)) (g.B.StructFields.layout (g.B.StructFields.kept c.args.fields.now.1)) g.A.StructFields.faults g.B.StructFields.faults _ _ _ c.read-2.result (rw c.in-Ok-false.field-0-test at c.in-Ok-false.ensures.tries) c.read-2.ensures.tries

pub returns-in-Err-clause-no_memory : goal.returns-in-Err-clause-no_memory
returns-in-Err-clause-no_memory g c =
    first_free (g.A.StructFields.layout (g.A.StructFields.kept c.args.fields.now.0)) (g.B.StructFields.layout (g.B.StructFields.kept c.args.fields.now.1)) g.A.StructFields.allocation_free g.B.StructFields.allocation_free (g.A.StructFields.state c.args.fields.now.0) (g.B.StructFields.state c.args.fields.now.1) c.args.name.now (map_state_of c.args.map.now) c.in-Err.ensures.tries.named c.in-Err.ensures.no_memory

pub returns-clause-no_memory : goal.returns-clause-no_memory
returns-clause-no_memory g c = others_try_free (g.A.StructFields.layout (g.A.StructFields.kept c.args.fields.now.0)) (g.B.StructFields.layout (g.B.StructFields.kept c.args.fields.now.1)) g.A.StructFields.faults g.A.StructFields.allocation_free g.B.StructFields.allocation_free _ c.read-2.result (rw c.in-Ok-false.field-0-test at c.in-Ok-false.ensures.tries) c.read-2.ensures.no_memory
