use Rattle.json5_de.specs.Convert.{names_bytes, variant_of}
use Rattle.json5_fields.proofs.NamedValues.{named_first}
use Rattle.json5_fields.proofs.names.one_of_names.Goals as goal

pub returns-in-Err : goal.returns-in-Err
returns-in-Err g c = record {
  sound = tt;
  complete = record { memory = λ t r v live reads shallow converts. let (k, is) = named_first c.args.values.now (variant_of (names_bytes c.args.names.now) t) v converts in c.in-Err.ensures.complete.memory t r k live reads shallow is };
  no_memory = λ t r v live reads shallow converts free. let (k, is) = named_first c.args.values.now (variant_of (names_bytes c.args.names.now) t) v converts in c.in-Err.ensures.no_memory t r k live reads shallow is free;
  refused = c.in-Err.ensures.refused;
  unprompted = c.in-Err.ensures.unprompted;
  same_text = c.in-Err.ensures.same_text;
  failed = c.in-Err.ensures.failed;
  before = c.in-Err.ensures.before;
}
