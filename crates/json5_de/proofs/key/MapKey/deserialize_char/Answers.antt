use Rattle.std.proofs.Common.{false, None, refl}
use Rattle.std.proofs.lemmas.Result.{err_from_is_err_and}
use Rattle.json5_de.specs.Convert.{one_character}
use Rattle.json5_de.specs.KeyKinds.{char_key}
use Rattle.json5_de.specs.Lending.{reader_of_key}
use Rattle.json5_de.proofs.FoundKeys.{not_found, key_judged}
use Rattle.json5_de.proofs.key.MapKey.deserialize_char.Goals as goal

pub returns-in_err-key : goal.returns-in_err-key
returns-in_err-key g c =
    let (y, is, from) = err_from_is_err_and c.from_residual.result c.from_residual.ensures.1 in
    rw (is, from) (record { reads = not_found char_key (λ c. c) (reader_of_key c.args.self.now) c.find_key.new.self c.in_err-key.field-0.0 c.in_err-key.ensures.refused c.in_err-key.ensures.complete c.in_err-key.ensures.failed c.in_err-key.ensures.before; same_reference = refl })

pub returns : goal.returns
returns g c = record { reads = key_judged false None (λ e. absurd (cc)) one_character (λ c. c) (reader_of_key c.args.self.now) c.find_key.new.self c.character_of.new.self c.in_ok-key.key c.character_of.result c.in_ok-key.ensures.taken c.character_of.ensures; same_reference = refl }
