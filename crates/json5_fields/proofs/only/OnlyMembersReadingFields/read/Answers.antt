use Rattle.json5_de.specs.Lending.{map_state_of}
use Rattle.json5_fields.proofs.Described.{only_free_here, only_refuse, only_take, unknown_free, unknown_refused, unknown_taken}
use Rattle.json5_fields.proofs.only.OnlyMembersReadingFields.read.Goals as goal

pub returns-in-Ok-true-clause-takes : goal.returns-in-Ok-true-clause-takes
returns-in-Ok-true-clause-takes g c = rw c.in-Ok-true.ensures.same (only_take (g.F.StructFields.layout (g.F.StructFields.kept c.args.self.now.reading)) g.F.StructFields.faults (rw c.in-Ok-true.field-0-test at c.in-Ok-true.ensures.tries))

pub returns-in-Ok-false-clause-takes : goal.returns-in-Ok-false-clause-takes
returns-in-Ok-false-clause-takes g c =
    rw c.in-Ok-false.ensures.same (unknown_taken (g.F.StructFields.layout (g.F.StructFields.kept c.args.self.now.reading)) g.F.StructFields.faults _ _ _ _ _ (rw c.in-Ok-false.field-0-test at c.in-Ok-false.ensures.tries) c.refuse_key.result c.refuse_key.new.self c.refuse_key.ensures.refused.failed c.refuse_key.ensures.refused.unprompted)

pub returns-in-Ok-false-clause-refused : goal.returns-in-Ok-false-clause-refused
returns-in-Ok-false-clause-refused g c =
    unknown_refused (g.F.StructFields.layout (g.F.StructFields.kept c.args.self.now.reading)) g.F.StructFields.faults _ _ _ _ _ (rw c.in-Ok-false.field-0-test at c.in-Ok-false.ensures.tries) c.refuse_key.result c.requires.named c.refuse_key.ensures.refused.own

pub returns-in-Err-clause-takes : goal.returns-in-Err-clause-takes
returns-in-Err-clause-takes g c = rw c.in-Err.ensures.same (only_take (g.F.StructFields.layout (g.F.StructFields.kept c.args.self.now.reading)) g.F.StructFields.faults c.in-Err.ensures.tries)

pub returns-in-Err-clause-refused : goal.returns-in-Err-clause-refused
returns-in-Err-clause-refused g c = only_refuse (g.F.StructFields.layout (g.F.StructFields.kept c.args.self.now.reading)) g.F.StructFields.faults c.in-Err.ensures.tries

pub returns-in-Ok-false-clause-no_memory : goal.returns-in-Ok-false-clause-no_memory
returns-in-Ok-false-clause-no_memory g c = unknown_free (g.F.StructFields.layout (g.F.StructFields.kept c.args.self.now.reading)) g.F.StructFields.faults _ _ _ _ _ (rw c.in-Ok-false.field-0-test at c.in-Ok-false.ensures.tries) c.refuse_key.result g.F.StructFields.allocation_free.values

pub returns-in-Err-clause-no_memory : goal.returns-in-Err-clause-no_memory
returns-in-Err-clause-no_memory g c = only_free_here (g.F.StructFields.layout (g.F.StructFields.kept c.args.self.now.reading)) g.F.StructFields.allocation_free (g.F.StructFields.state c.args.self.now.reading) c.args.name.now (map_state_of c.args.map.now) c.in-Err.ensures.tries.named c.in-Err.ensures.no_memory
