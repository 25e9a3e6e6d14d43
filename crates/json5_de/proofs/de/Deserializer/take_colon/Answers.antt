use Rattle.std.proofs.Common.{true, subst}
use Rattle.json5_de.specs.DeserializeLaw.{answered}
use Rattle.json5_de.specs.ObjectFaults.{PassesColon}
use Rattle.json5_de.specs.State.{State}
use Rattle.json5_de.proofs.ShortReads.{same_reader, short_colon, colon_at_once}
use Rattle.json5_de.proofs.de.Deserializer.take_colon.Goals as goal

pub returns : goal.returns
returns g c =
    colon_at_once c.args.self.now _ (short_colon c.self.inside.scanner c.short_sign.new.self c.self.inside.level c.self.inside.failed c.args.self.now true c.self.view_is c.if-self.false c.if-not-short_sign.ensures)

pub returns-then-not-short_sign : goal.returns-then-not-short_sign
returns-then-not-short_sign g c =
    let same = same_reader c.self.inside.scanner c.short_sign.new.self c.self.inside.level c.self.inside.failed c.args.self.now c.self.view_is c.if-not-short_sign.ensures in
    subst (λ (s : State). PassesColon s c.take_colon_slowly-then-not-short_sign.new.self (answered c.take_colon_slowly-then-not-short_sign.result c.take_colon_slowly-then-not-short_sign.new.fault)) same c.take_colon_slowly-then-not-short_sign.ensures
