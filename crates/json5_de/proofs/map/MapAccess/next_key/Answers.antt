use Rattle.std.proofs.Common.{refl, true}
use Rattle.json5_de.specs.Lending.{blocking_map}
use Rattle.json5_de.proofs.ObjectCalls.{lent_at, key_given, key_refused}
use Rattle.json5_de.proofs.map.MapAccess.next_key.Goals as goal

pub returns-in-Some : goal.returns-in-Some
returns-in-Some g c =
    let k = rw (c.set_failed.ensures, c.is_comma_due-comma_due.ensures) at c.in-Some.ensures.reads in
    let new = blocking_map (lent_at c.args.self.now c.take_member_key.new.self c.take_member_key.new.start) c.args.self.now.progress.failed in
    rw (c.with_key-self.ensures, c.set_failed-in-Some.ensures) (key_given g.K.DeserializeKey.content g.K.DeserializeKey.convert g.K.DeserializeKey.refuses c.args.self.now c.requires.no_key c.take_member_key.new.self c.take_member_key.new.start new c.is_some.result c.in-Some.key refl c.is_some.ensures k.steady.same_text c.in-Some.ensures.begins k.sound)

pub returns-in-None : goal.returns-in-None
returns-in-None g c =
    let k = rw (c.set_failed.ensures, c.is_comma_due-comma_due.ensures) at c.in-None.ensures.reads in
    let new = blocking_map (lent_at c.args.self.now c.take_member_key.new.self c.take_member_key.new.start) true in
    rw (c.refuse_access.ensures.reader, c.refuse_access.ensures.remembers) (key_refused g.K.DeserializeKey.content g.K.DeserializeKey.convert g.K.DeserializeKey.refuses c.args.self.now c.requires.no_key c.take_member_key.new.self c.take_member_key.new.start new c.take_member_key.new.fault c.refuse_access.result refl c.refuse_access.ensures.placed k.cause k.steady k.complete k.closing)
