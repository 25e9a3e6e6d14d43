use Rattle.std.proofs.lemmas.Result.{err_from_is_err_and}
use Rattle.json5_de.specs.Lending.{reader_of_key}
use Rattle.json5_de.specs.OptionFaults.{RefusesLive}
use Rattle.json5_de.proofs.FoundKeys.{some_key, no_some_key}
use Rattle.json5_de.proofs.key.MapKey.deserialize_option.Goals as goal

pub returns-in_err-key : goal.returns-in_err-key
returns-in_err-key g c =
    let (y, is, from) = err_from_is_err_and c.from_residual.result c.from_residual.ensures.1 in
    rw (is, from) (record {
      reads = no_some_key g.K.DeserializeKey.content g.K.DeserializeKey.convert (RefusesLive g.K.DeserializeKey.refuses) (reader_of_key c.args.self.now) (reader_of_key c.deserialize_newtype_struct.new.self) c.in_err-key.field-0.0 c.in_err-key.ensures.reads;
      same_reference = c.in_err-key.ensures.same_reference;
    })

pub returns : goal.returns
returns g c = record {
  reads = some_key g.K.DeserializeKey.content g.K.DeserializeKey.convert (RefusesLive g.K.DeserializeKey.refuses) (reader_of_key c.args.self.now) (reader_of_key c.deserialize_newtype_struct.new.self) c.in_ok-key.key c.in_ok-key.ensures.reads;
  same_reference = c.in_ok-key.ensures.same_reference;
}
