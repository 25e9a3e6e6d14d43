use Rattle.std.proofs.Common.{false, None}
use Rattle.std.proofs.lemmas.Result.{err_from_is_err_and}
use Rattle.json5_de.specs.Convert.{one_character}
use Rattle.json5_de.specs.TokenKinds.{escape_free_text}
use Rattle.json5_de.proofs.FoundStrings.{no_string, string_judged}
use Rattle.json5_de.proofs.de.Deserializer.deserialize_char.Goals as goal

pub returns-in_err-string : goal.returns-in_err-string
returns-in_err-string g c =
    let (y, is, from) = err_from_is_err_and c.from_residual.result c.from_residual.ensures.1 in
    rw (is, from) (no_string None (λ e. absurd (cc)) one_character escape_free_text (λ c. c) c.args.self.now c.find_string.new.self c.in_err-string.field-0.0 (λ t escape_free. escape_free)
    c.in_err-string.ensures.refused c.in_err-string.ensures.complete c.in_err-string.ensures.failed c.in_err-string.ensures.before)

pub returns : goal.returns
returns g c =
    string_judged false None (λ e. absurd (cc)) one_character escape_free_text (λ c. c) c.args.self.now c.find_string.new.self c.character_of.new.self c.in_ok-string.string c.character_of.result (λ may. absurd (cc))
    c.in_ok-string.ensures.taken c.character_of.ensures
