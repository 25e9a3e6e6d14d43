use Rattle.std.proofs.Common.{Some, ap, sym}
use Rattle.json5_de.specs.Convert.{every_text}
use Rattle.json5_de.specs.KeyKinds.{string_key}
use Rattle.json5_de.proofs.FoundKeys.{as_type, found_free, key_is_text, not_found}
use Rattle.json5_de.proofs.de.Deserializer.find_field_key.Goals as goal

pub put_token-requires : goal.put_token-requires
put_token-requires g c = let k = c.in-Ok.ensures.taken in (k.text, k.escape_free, rw c.input.ensures k.is_text)

pub returns-in-Ok-clause-reads : goal.returns-in-Ok-clause-reads
returns-in-Ok-clause-reads g c =
    let k = c.in-Ok.ensures.taken in
    as_type (key_is_text every_text _ c.args.self.now c.find_key.new.self c.in-Ok.key tt k (ap Some (sym ((rw c.input.ensures at c.put_token.ensures) k.text k.escape_free k.is_text))))

pub returns-in-Err-clause-reads : goal.returns-in-Err-clause-reads
returns-in-Err-clause-reads g c = as_type (not_found string_key _ c.args.self.now c.find_key.new.self c.in-Err.e c.in-Err.ensures.refused c.in-Err.ensures.complete c.in-Err.ensures.failed c.in-Err.ensures.before)

pub returns-in-Err-clause-no_memory : goal.returns-in-Err-clause-no_memory
returns-in-Err-clause-no_memory g c = found_free c.args.self.now c.in-Err.e c.in-Err.ensures.complete
