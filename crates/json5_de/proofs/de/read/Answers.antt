use Rattle.json5_de.proofs.Refinement.{reads_content}
use Rattle.json5_de.proofs.de.read.Goals as goal

pub returns : goal.returns
returns g c = record {
  sound = c.deserialize.ensures.sound;
  complete = reads_content g.T.Deserialize.content g.T.Deserialize.convert c.args.de.now c.deserialize.new.de c.deserialize.result c.deserialize.ensures.sound c.deserialize.ensures.complete;
  no_memory = c.deserialize.ensures.no_memory;
  refused = c.deserialize.ensures.refused;
  unprompted = c.deserialize.ensures.unprompted;
  same_text = c.deserialize.ensures.same_text;
}
