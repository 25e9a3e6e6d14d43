use Rattle.json5_de.specs.Maps.{in_insertion_order}
use Rattle.json5_de.proofs.MapsRead.{gives_map, completes_map, indexed_content}
use Rattle.json5_de.proofs.impls.maps.IndexMapDeserialize.deserialize.Goals as goal

pub returns-clause-sound : goal.returns-clause-sound
returns-clause-sound g c =
    gives_map g.K.DeserializeKey.convert g.V.Deserialize.convert (λ ps test tells. in_insertion_order test ps) c.args.de.now g.K.DeserializeKey.content g.V.Deserialize.content _ _
    (λ m ps are. indexed_content g.K.DeserializeKey.content g.V.Deserialize.content g.K.PartialEq.eq m.entries ps are) c.gather.new.de c.gather.result c.gather.ensures.sound

pub returns-clause-complete : goal.returns-clause-complete
returns-clause-complete g c = completes_map g.K.DeserializeKey.convert g.V.Deserialize.convert (λ ps test tells. in_insertion_order test ps) c.args.de.now c.gather.result c.gather.ensures.complete
