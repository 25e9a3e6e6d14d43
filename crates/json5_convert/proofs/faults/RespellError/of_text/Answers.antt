use Rattle.std.proofs.Common.{◌≡◌, refl, ap, sym, ◌∙◌, Some, None}
use Rattle.json5_grammar.specs.declared.error_code.ErrorCode.TheVariants as codes
use Rattle.json5_types.specs.Errors.{known_code}
use Rattle.json5_convert.proofs.faults.RespellError.of_text.Goals as goal

pub returns-in_default : goal.returns-in_default
returns-in_default c = (refl, λ h. let k : Some codes.OutOfMemory ≡ None = sym (ap known_code h) ∙ sym c.code.ensures ∙ c.in_default.is in absurd (cc))

pub returns-in_default-code : goal.returns-in_default-code
returns-in_default-code c = (
  refl,
  λ h.
      let k : Some c.in-Some.code ≡ Some codes.OutOfMemory = sym c.in-Some.is ∙ c.code.ensures ∙ ap known_code h in
      let same : c.in-Some.code ≡ codes.OutOfMemory = cc in
      c.in_default-code.not-OutOfMemory same,
)
