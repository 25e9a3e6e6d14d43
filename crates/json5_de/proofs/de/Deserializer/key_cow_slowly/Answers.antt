use Rattle.std.proofs.Common.{refl}
use Rattle.std.proofs.lemmas.Result.{err_from_is_err_and}
use Rattle.json5_types.specs.Cows.{cow_bytes, is_borrowed}
use Rattle.json5_de.specs.Convert.{every_cow}
use Rattle.json5_de.specs.KeyKinds.{cow_key}
use Rattle.json5_de.proofs.FoundKeys.{not_found, key_is_text}
use Rattle.json5_de.proofs.de.Deserializer.key_cow_slowly.Goals as goal

pub returns-in_err-key : goal.returns-in_err-key
returns-in_err-key g c =
    let (y, is, from) = err_from_is_err_and c.from_residual.result c.from_residual.ensures.1 in
    rw (is, from) (not_found cow_key (λ t. (cow_bytes t, is_borrowed t)) c.args.self.now c.find_key.new.self c.in_err-key.field-0.0 c.in_err-key.ensures.refused c.in_err-key.ensures.complete c.in_err-key.ensures.failed c.in_err-key.ensures.before)

pub returns : goal.returns
returns g c =
    let k = c.in_ok-key.ensures.taken in
    let (borrowed, bytes) = c.borrowed_key_text.ensures k.text k.escape_free k.is_text in
    key_is_text every_cow (λ t. (cow_bytes t, is_borrowed t)) c.args.self.now c.find_key.new.self c.in_ok-key.key c.borrowed_key_text.result k (rw (bytes, borrowed) refl)
