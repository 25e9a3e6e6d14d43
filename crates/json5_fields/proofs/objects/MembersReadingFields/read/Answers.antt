use Rattle.json5_de.specs.Lending.{map_state_of}
use Rattle.json5_fields.proofs.Described.{all_free_here, all_refuse, all_take, passed_free, passed_refused, passes_all}
use Rattle.json5_fields.proofs.objects.MembersReadingFields.read.Goals as goal

pub returns-in-Ok-true-clause-takes : goal.returns-in-Ok-true-clause-takes
returns-in-Ok-true-clause-takes g c = rw c.in-Ok-true.ensures.same (all_take (g.F.StructFields.layout (g.F.StructFields.kept c.args.self.now.reading)) g.F.StructFields.faults (rw c.in-Ok-true.field-0-test at c.in-Ok-true.ensures.tries))

pub returns-in-Ok-false-clause-takes : goal.returns-in-Ok-false-clause-takes
returns-in-Ok-false-clause-takes g c =
    rw c.in-Ok-false.ensures.same (passes_all (g.F.StructFields.layout (g.F.StructFields.kept c.args.self.now.reading)) g.F.StructFields.faults _ (rw c.in-Ok-false.field-0-test at c.in-Ok-false.ensures.tries) c.skip_value.ensures.passes)

pub returns-in-Ok-false-clause-refused : goal.returns-in-Ok-false-clause-refused
returns-in-Ok-false-clause-refused g c =
    passed_refused (g.F.StructFields.layout (g.F.StructFields.kept c.args.self.now.reading)) g.F.StructFields.faults _ (rw c.in-Ok-false.field-0-test at c.in-Ok-false.ensures.tries) c.skip_value.ensures.cause

pub returns-in-Err-clause-takes : goal.returns-in-Err-clause-takes
returns-in-Err-clause-takes g c = rw c.in-Err.ensures.same (all_take (g.F.StructFields.layout (g.F.StructFields.kept c.args.self.now.reading)) g.F.StructFields.faults c.in-Err.ensures.tries)

pub returns-in-Err-clause-refused : goal.returns-in-Err-clause-refused
returns-in-Err-clause-refused g c = all_refuse (g.F.StructFields.layout (g.F.StructFields.kept c.args.self.now.reading)) g.F.StructFields.faults c.in-Err.ensures.tries

pub returns-in-Ok-false-clause-no_memory : goal.returns-in-Ok-false-clause-no_memory
returns-in-Ok-false-clause-no_memory g c = passed_free (g.F.StructFields.layout (g.F.StructFields.kept c.args.self.now.reading)) g.F.StructFields.faults g.F.StructFields.allocation_free.values _ (rw c.in-Ok-false.field-0-test at c.in-Ok-false.ensures.tries) c.skip_value.ensures.no_memory

pub returns-in-Err-clause-no_memory : goal.returns-in-Err-clause-no_memory
returns-in-Err-clause-no_memory g c = all_free_here (g.F.StructFields.layout (g.F.StructFields.kept c.args.self.now.reading)) g.F.StructFields.allocation_free (g.F.StructFields.state c.args.self.now.reading) c.args.name.now (map_state_of c.args.map.now) c.in-Err.ensures.no_memory
