use Rattle.json5_grammar.specs.Language.Characters.{is_digit}
use Rattle.std.proofs.Common.{subst, arith}
use Rattle.json5_tokens.specs.ByteRuns.{IsFewDigits, IsUnpadded}
use Rattle.json5_tokens.proofs.FewDigits.{few_found}
use Rattle.json5_types.proofs.AsciiRuns.{front_boundary, digit_is_ascii}
use Rattle.json5_tokens.proofs.WholesOfFewDigits.{len_counted, few_spelled}
use Rattle.json5_tokens.proofs.numbers.short.few_digits.Goals.{else-found-gt1-via-then-found-gt1+else-bytes-eq48, else-found-gt1-via-else-found-gt1}
use Rattle.json5_tokens.proofs.numbers.short.few_digits.Goals as goal

pub split_at-requires : goal.split_at-requires
split_at-requires c =
    let unpadded : IsUnpadded c.as_bytes-bytes.result.now c.front_digits-found.result.len = elim c.else-found-gt1.branch [
      | else-found-gt1-via-then-found-gt1+else-bytes-eq48 w ↦ λ l z. w.if-bytes-eq48.false z
      | else-found-gt1-via-else-found-gt1 w ↦ λ l z. absurd (omega (arith, l, w.if-found-gt1.false))
    ] in
    let few = few_found c.as_bytes-bytes.result.now _ c.front_digits-found.ensures c.if-found-eq0.false (c.number_goes_on.ensures c.if-number_goes_on.false) unpadded in
    let k = subst (λ z. IsFewDigits z c.front_digits-found.result) c.as_bytes-bytes.ensures.value few in
    front_boundary is_digit c.args.text.now _ digit_is_ascii c.utf8.text (len_counted c.args.text.now _ k)

pub returns : goal.returns
returns c =
    let unpadded : IsUnpadded c.as_bytes-bytes.result.now c.front_digits-found.result.len = elim c.else-found-gt1.branch [
      | else-found-gt1-via-then-found-gt1+else-bytes-eq48 w ↦ λ l z. w.if-bytes-eq48.false z
      | else-found-gt1-via-else-found-gt1 w ↦ λ l z. absurd (omega (arith, l, w.if-found-gt1.false))
    ] in
    let few = few_found c.as_bytes-bytes.result.now _ c.front_digits-found.ensures c.if-found-eq0.false (c.number_goes_on.ensures c.if-number_goes_on.false) unpadded in
    let k = subst (λ z. IsFewDigits z c.front_digits-found.result) c.as_bytes-bytes.ensures.value few in
    few_spelled c.args.text.now _ _ c.utf8.text k c.split_at.ensures.back
