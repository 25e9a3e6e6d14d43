use Rattle.std.proofs.Common.{ap}
use Rattle.json5_de.specs.State.{State}
use Rattle.json5_de.proofs.Offsets.{is_count}
use Rattle.json5_de.proofs.de.Deserializer.offset.Goals as goal

pub returns : goal.returns
returns g c = is_count c.args.self.now _ c.offset.result (ap (λ (s : State). s.input) c.self.view_is) (ap (λ (s : State). s.unread) c.self.view_is) c.offset.ensures.counted c.offset.ensures.suffix c.offset.ensures.scalars
