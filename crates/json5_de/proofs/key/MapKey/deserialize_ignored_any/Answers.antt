use Rattle.std.proofs.Common.{refl}
use Rattle.std.proofs.lemmas.Result.{err_from_is_err_and}
use Rattle.json5_de.specs.Keys.{every_key}
use Rattle.json5_de.specs.KeyKinds.{ignored_key}
use Rattle.json5_de.specs.Lending.{reader_of_key}
use Rattle.json5_de.proofs.FoundKeys.{not_found, key_is_text}
use Rattle.json5_de.proofs.key.MapKey.deserialize_ignored_any.Goals as goal

pub returns-in_err-find_key : goal.returns-in_err-find_key
returns-in_err-find_key g c =
    let (y, is, from) = err_from_is_err_and c.from_residual.result c.from_residual.ensures.1 in
    let e = c.in_err-find_key.ensures in
    rw (is, from) (record { reads = not_found ignored_key (λ t. tt) (reader_of_key c.args.self.now) c.find_key.new.self c.in_err-find_key.field-0.0 e.refused e.complete e.failed e.before; same_reference = refl })

pub returns : goal.returns
returns g c = record { reads = key_is_text every_key (λ t. tt) (reader_of_key c.args.self.now) c.find_key.new.self c.in_ok-find_key.field-0 tt c.in_ok-find_key.ensures.taken refl; same_reference = refl }
