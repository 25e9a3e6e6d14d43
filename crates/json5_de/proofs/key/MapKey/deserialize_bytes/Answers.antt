use Rattle.std.proofs.Common.{true, Some, refl}
use Rattle.std.proofs.lemmas.Result.{err_from_is_err_and}
use Rattle.json5_grammar.specs.declared.error_code.ErrorCode.TheVariants.{InvalidBytes}
use Rattle.json5_types.specs.ByteBufs.{bytes_of}
use Rattle.json5_de.specs.Convert.{digits_bytes}
use Rattle.json5_de.specs.KeyKinds.{bytes_key}
use Rattle.json5_de.specs.Lending.{reader_of_key}
use Rattle.json5_de.proofs.FoundKeys.{not_found, key_judged}
use Rattle.json5_de.proofs.key.MapKey.deserialize_bytes.Goals as goal

pub returns-in_err-key : goal.returns-in_err-key
returns-in_err-key g c =
    let (y, is, from) = err_from_is_err_and c.from_residual.result c.from_residual.ensures.1 in
    rw (is, from) (record { reads = not_found bytes_key bytes_of (reader_of_key c.args.self.now) c.find_key.new.self c.in_err-key.field-0.0 c.in_err-key.ensures.refused c.in_err-key.ensures.complete c.in_err-key.ensures.failed c.in_err-key.ensures.before; same_reference = refl })

pub returns : goal.returns
returns g c = record { reads = key_judged true (Some InvalidBytes) (λ e. absurd (cc)) digits_bytes bytes_of (reader_of_key c.args.self.now) c.find_key.new.self c.bytes_of.new.self c.in_ok-key.key c.bytes_of.result c.in_ok-key.ensures.taken c.bytes_of.ensures; same_reference = refl }
