use Rattle.std.proofs.Common.{◌∙◌, ◌++◌, take, ap, sym}
use Rattle.json5_grammar.specs.Language.Characters.{is_digit}
use Rattle.json5_grammar.specs.Language.Numbers.{without_front_zeros}
use Rattle.json5_types.proofs.AsciiRuns.{counted, digit_is_ascii, front_boundary}
use Rattle.json5_types.proofs.GatheredDigits.{splits}
use Rattle.json5_types.proofs.inline_digits.InlineDigits.take_digits.Goals as goal

pub split_at-requires : goal.split_at-requires
split_at-requires c = front_boundary is_digit c.args.text.now _ digit_is_ascii c.utf8.text (counted is_digit c.args.text.now _ (rw c.as_bytes.ensures.value at c.in_ok-count.ensures.all))

pub returns-clause-split : goal.returns-clause-split
returns-clause-split c = splits c.args.text.now _ _ _ c.utf8.text (rw c.as_bytes.ensures.value at c.in_ok-count.ensures.all) c.split_at.ensures.front c.split_at.ensures.back

pub returns-clause-gathered : goal.returns-clause-gathered
returns-clause-gathered c seen e = c.in_ok-count.ensures.gathered seen e ∙ ap (λ z. without_front_zeros (seen ++ z)) (ap (take c.in_ok-count.count) c.as_bytes.ensures.value ∙ sym c.split_at.ensures.front)
