use Rattle.std.proofs.Common.{◌<◌, sym, ap, ◌∙◌, subst, arith}
use Rattle.std.specs.Prelude.{slice_index}
use Rattle.std.proofs.lemmas.Bool.Decides.{nat_tests}
use Rattle.json5_tokens.specs.Scan.{StartsWith}
use Rattle.json5_tokens.proofs.TextCuts.{first_cut, begins_ascii}
use Rattle.json5_tokens.proofs.char.front_ascii.Goals as goal

pub split_at-requires : goal.split_at-requires
split_at-requires c =
    let same = c.as_bytes-bytes.ensures.value in
    first_cut c.args.text.now c.utf8.text (grind (arith, nat_tests, same, c.if-is_empty.ensures, c.if-is_empty.false)) (subst (λ s. slice_index s 0 < 128) same c.if-bytes-ge128.false)

pub returns : goal.returns
returns c =
    let same = c.as_bytes-bytes.ensures.value in
    subst (λ d. StartsWith c.args.text.now d c.split_at.result.1.now) (ap (λ s. slice_index s 0) (sym same) ∙ sym c.from.ensures)
    (begins_ascii c.args.text.now _ c.utf8.text (grind (arith, nat_tests, same, c.if-is_empty.ensures, c.if-is_empty.false)) (subst (λ s. slice_index s 0 < 128) same c.if-bytes-ge128.false) c.split_at.ensures.back)
