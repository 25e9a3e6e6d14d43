use Rattle.json5.proofs.DocumentReads.{reads_text}
use Rattle.json5.proofs.laws.values_read.Goals as goal

pub returns : goal.returns
returns g c = λ limit x result bound k. reads_text limit x result bound k.sound k.complete k.refused k.unprompted
