use Rattle.std.proofs.Common.{Err, refl, true}
use Rattle.json5_de.specs.Lending.{blocking_map, map_state_of}
use Rattle.json5_de.proofs.ObjectCalls.{lent, value_given, value_refused}
use Rattle.json5_de.proofs.ObjectMembers.{value_free}
use Rattle.json5_de.proofs.map.MapAccess.next_value.Goals as goal

pub returns-in-Some-clause-reads : goal.returns-in-Some-clause-reads
returns-in-Some-clause-reads g c =
    let k = rw c.set_failed.ensures at c.in-Some.ensures.reads in
    let new = blocking_map (lent c.args.self.now c.take_member_value.new.self) c.args.self.now.progress.failed in
    rw c.set_failed-in-Some.ensures (value_given g.V.Deserialize.content g.V.Deserialize.convert g.V.Deserialize.refuses c.args.self.now c.requires.key c.take_member_value.new.self new c.in-Some.value refl k.steady.same_text k.sound)

pub returns-in-None-clause-reads : goal.returns-in-None-clause-reads
returns-in-None-clause-reads g c =
    let k = rw c.set_failed.ensures at c.in-None.ensures.reads in
    rw (c.refuse_access.ensures.reader, c.refuse_access.ensures.remembers) (value_refused g.V.Deserialize.content g.V.Deserialize.convert g.V.Deserialize.refuses c.args.self.now c.requires.key c.take_member_value.new.self (blocking_map (lent c.args.self.now c.take_member_value.new.self) true) c.take_member_value.new.fault c.refuse_access.result refl c.refuse_access.ensures.placed k.cause k.steady k.complete)

pub returns-in-None-clause-no_memory : goal.returns-in-None-clause-no_memory
returns-in-None-clause-no_memory g c = value_free {V = Unit {0}} g.V.Deserialize.convert g.V.Deserialize.allocation_free (map_state_of c.args.self.now) (Err c.refuse_access.result) c.requires.key
    (rw c.set_failed.ensures at c.in-None.ensures.no_memory)
