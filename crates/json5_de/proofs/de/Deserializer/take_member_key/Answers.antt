use Rattle.json5_de.proofs.MemberRefusals.{begun_solid, no_entry}
use Rattle.json5_de.proofs.de.Deserializer.take_member_key.Goals as goal

pub returns-in-None-clause-reads : goal.returns-in-None-clause-reads
returns-in-None-clause-reads g c = no_entry g.K.DeserializeKey.content g.K.DeserializeKey.convert g.K.DeserializeKey.refuses c.args.comma_due c.args.self.now c.take_step.new.self c.take_step.new.fault c.in-None.ensures

pub returns-in-Ok-clause-begins : goal.returns-in-Ok-clause-begins
returns-in-Ok-clause-begins g c =
    let at = rw c.in-Some-true.field-0-test at c.in-Some-true.ensures.sound in
    c.in-Ok.ensures.begins (begun_solid c.args.comma_due c.args.self.now.unread c.take_step.new.self.unread at.begun)

pub returns-in-Err-clause-reads : goal.returns-in-Err-clause-reads
returns-in-Err-clause-reads g c = c.in-Err.ensures.reads c.args.comma_due c.args.self.now (rw c.in-Some-true.field-0-test at c.in-Some-true.ensures.sound)
