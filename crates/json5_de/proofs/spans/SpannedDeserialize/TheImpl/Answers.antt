use Rattle.json5_de.proofs.Refinement.{completes}
use Rattle.json5_de.proofs.spans.SpannedDeserialize.TheImpl.Goals as goal

pub deserialize-tells : goal.deserialize-tells
deserialize-tells g c k = record {
  sound = k.ensures.reads.sound;
  complete = completes (λ s. g.T.Deserialize.content s.value) g.T.Deserialize.convert k.args.de.now k.result k.ensures.reads.complete;
  no_memory = k.ensures.reads.no_memory;
  refused = k.ensures.reads.refused;
  unprompted = k.ensures.reads.unprompted;
  same_text = k.ensures.reads.same_text;
}
