use Rattle.std.proofs.Common.{refl, ◌∙◌}
use Rattle.json5_de.specs.Lending.{reader_of_key}
use Rattle.json5_de.proofs.ShortReads.{own_key, own_lost, slice_at}
use Rattle.json5_de.proofs.key.MapKey.deserialize_string.Goals as goal

pub returns-in-Ok : goal.returns-in-Ok
returns-in-Ok g c = record {
  reads = own_key (reader_of_key c.args.self.now) c.short_key.new.self c.short_key.new.self _ c.in-Some.ensures (refl, λ u k. c.in-Ok.ensures.ok ∙ c.text_of_span.ensures u (slice_at c.de.inside.scanner c.de.view_is k));
  same_reference = refl;
}

pub returns-in-Err : goal.returns-in-Err
returns-in-Err g c = record {
  reads = own_key (reader_of_key c.args.self.now) c.short_key.new.self c.without_memory.new.self c.without_memory.result c.in-Some.ensures (own_lost c.in-Some.span c.short_key.new.self c.without_memory.new.self c.without_memory.result c.without_memory.ensures);
  same_reference = refl;
}
