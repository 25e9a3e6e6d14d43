use Rattle.std.proofs.Common.{Some, ap, sym, string_bytes}
use Rattle.std.proofs.lemmas.Result.{err_from_is_err_and}
use Rattle.json5_de.specs.Convert.{every_text}
use Rattle.json5_de.specs.KeyKinds.{string_key}
use Rattle.json5_de.proofs.TokenKinds.{gives_up}
use Rattle.json5_de.proofs.FoundKeys.{not_found, key_is_text, key_lacks_memory}
use Rattle.json5_de.proofs.de.Deserializer.key_string_slowly.Goals as goal

pub returns-in_err-key : goal.returns-in_err-key
returns-in_err-key g c =
    let (y, is, from) = err_from_is_err_and c.from_residual.result c.from_residual.ensures.1 in
    rw (is, from) (not_found string_key string_bytes c.args.self.now c.find_key.new.self c.in_err-key.field-0.0 c.in_err-key.ensures.refused c.in_err-key.ensures.complete c.in_err-key.ensures.failed c.in_err-key.ensures.before)

pub returns-in-Ok : goal.returns-in-Ok
returns-in-Ok g c =
    let k = c.in_ok-key.ensures.taken in
    key_is_text every_text string_bytes c.args.self.now c.find_key.new.self c.in_ok-key.key c.in-Ok.text k (ap Some (sym (c.in-Ok.ensures k.text k.escape_free k.is_text)))

pub returns-in-Err : goal.returns-in-Err
returns-in-Err g c =
    let k = c.in_ok-key.ensures.taken in
    let new = c.find_key.new.self in
    rw c.refuse.ensures.result (key_lacks_memory string_key string_bytes c.args.self.now new c.refuse.new.self c.in_ok-key.key c.in-Err.e k (c.in-Err.ensures k.text k.escape_free k.is_text) (gives_up new c.refuse.new.self c.refuse.ensures.state))
