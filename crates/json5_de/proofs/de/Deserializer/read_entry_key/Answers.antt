use Rattle.std.proofs.Common.{refl, ap}
use Rattle.json5_de.specs.State.{State}
use Rattle.json5_de.proofs.Offsets.{is_count}
use Rattle.json5_de.proofs.KeyPlaces.{given_here, read_begins}
use Rattle.json5_de.proofs.MemberRefusals.{no_key_at_entry, read_key_placed}
use Rattle.json5_de.proofs.de.Deserializer.read_entry_key.Goals as goal

pub returns-then-not-at_key-clause-reads : goal.returns-then-not-at_key-clause-reads
returns-then-not-at_key-clause-reads g c = λ comma_due from at.
    no_key_at_entry g.K.DeserializeKey.content g.K.DeserializeKey.convert g.K.DeserializeKey.refuses comma_due from c.fail_unexpected.new.self c.args.self.now c.fail_unexpected.result at (c.if-not-at_key.ensures.other refl) c.fail_unexpected.ensures

pub returns-clause-reads : goal.returns-clause-reads
returns-clause-reads g c = λ comma_due from at.
    let count = is_count c.args.self.now _ c.offset-offset.result (ap (λ (s : State). s.input) c.self.view_is) (ap (λ (s : State). s.unread) c.self.view_is) c.offset-offset.ensures.counted c.offset-offset.ensures.suffix c.offset-offset.ensures.scalars in
    read_key_placed g.K.DeserializeKey.content g.K.DeserializeKey.convert g.K.DeserializeKey.refuses comma_due from c.args.self.now c.read_key-read.new.self (record { entry = at; begins = c.if-not-at_key.ensures.found refl }) c.read_key-read.result c.positioned_key.result c.offset-offset.result
    c.read_key-read.ensures count c.positioned_key.ensures

pub returns-clause-begins : goal.returns-clause-begins
returns-clause-begins g c = λ solid.
    let count = is_count c.args.self.now _ c.offset-offset.result (ap (λ (s : State). s.input) c.self.view_is) (ap (λ (s : State). s.unread) c.self.view_is) c.offset-offset.ensures.counted c.offset-offset.ensures.suffix c.offset-offset.ensures.scalars in
    read_begins g.K.DeserializeKey.content g.K.DeserializeKey.convert c.args.self.now c.read_key-read.new.self c.positioned_key.result count solid
    (given_here g.K.DeserializeKey.content g.K.DeserializeKey.convert c.args.self.now c.read_key-read.new.self _ c.read_key-read.result c.positioned_key.result c.read_key-read.ensures.sound c.positioned_key.ensures)

pub returns-then-not-at_key-clause-begins : goal.returns-then-not-at_key-clause-begins
returns-then-not-at_key-clause-begins g c = λ solid. tt
