use Rattle.std.proofs.Common.{refl, true}
use Rattle.json5_de.specs.Lending.{blocking}
use Rattle.json5_de.proofs.ArrayCalls.{lent, next_given, next_refused}
use Rattle.json5_de.proofs.seq.SeqAccess.next_element.Goals as goal

pub returns-in-Some : goal.returns-in-Some
returns-in-Some g c =
    let k = rw (c.set_failed.ensures, c.is_comma_due-comma_due.ensures) at c.in-Some.ensures in
    let new = blocking (lent c.args.self.now c.take_element.new.self) c.args.self.now.progress.failed in
    rw (c.with_element-self.ensures, c.set_failed-in-Some.ensures) (next_given g.T.Deserialize.content g.T.Deserialize.convert g.T.Deserialize.refuses c.args.self.now c.take_element.new.self new c.is_some.result c.in-Some.next refl c.is_some.ensures k.steady.same_text k.sound)

pub returns-in-None : goal.returns-in-None
returns-in-None g c =
    let k = rw (c.set_failed.ensures, c.is_comma_due-comma_due.ensures) at c.in-None.ensures in
    rw (c.refuse_access.ensures.reader, c.refuse_access.ensures.remembers) (next_refused g.T.Deserialize.content g.T.Deserialize.convert g.T.Deserialize.refuses c.args.self.now c.take_element.new.self (blocking (lent c.args.self.now c.take_element.new.self) true) c.take_element.new.fault c.refuse_access.result refl c.refuse_access.ensures.placed k.cause k.steady k.complete k.closing)
