use Rattle.std.proofs.Common.{refl, true, Some}
use Rattle.std.proofs.lemmas.Result.{err_from_is_err_and}
use Rattle.json5_grammar.specs.declared.error_code.ErrorCode.TheVariants.{InvalidBytes}
use Rattle.json5_types.specs.ByteBufs.{bytes_of}
use Rattle.json5_de.specs.Convert.{digits_bytes}
use Rattle.json5_de.specs.TokenKinds.{no_tree}
use Rattle.json5_de.proofs.FoundStrings.{no_string, string_judged}
use Rattle.json5_de.proofs.de.Deserializer.deserialize_bytes.Goals as goal

pub returns-in_err-string : goal.returns-in_err-string
returns-in_err-string g c =
    let (y, is, from) = err_from_is_err_and c.from_residual.result c.from_residual.ensures.1 in
    rw (is, from) (no_string (Some InvalidBytes) (λ e. absurd (cc)) digits_bytes no_tree bytes_of c.args.self.now c.find_string.new.self c.in_err-string.field-0.0 (λ t allocation_free. absurd (cc))
    c.in_err-string.ensures.refused c.in_err-string.ensures.complete c.in_err-string.ensures.failed c.in_err-string.ensures.before)

pub returns : goal.returns
returns g c =
    string_judged true (Some InvalidBytes) (λ e. absurd (cc)) digits_bytes no_tree bytes_of c.args.self.now c.find_string.new.self c.bytes_of.new.self c.in_ok-string.string c.bytes_of.result (λ may t. refl)
    c.in_ok-string.ensures.taken c.bytes_of.ensures
