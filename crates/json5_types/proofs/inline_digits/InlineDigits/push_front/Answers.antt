use Rattle.std.proofs.Common.{◌≡◌, ◌∙◌, ℕ, List, Option, Some, None, take}
use Rattle.std.specs.Prelude.{IfSome}
use Rattle.std.specs.List.{prefix_len}
use Rattle.json5_grammar.specs.Language.Characters.{is_digit}
use Rattle.json5_types.specs.DigitRuns.{Gathers, Pushed}
use Rattle.json5_types.proofs.inline_digits.InlineDigits.push_front.Goals as goal

pushed : (old kept new bytes : List ℕ) (o : Option ℕ) → kept ≡ old → IfSome o (λ count. count ≡ prefix_len is_digit bytes) → IfSome o (λ count. Gathers kept new (take count bytes)) → IfSome o (Pushed old new bytes)
pushed old kept new bytes None e all gathered = tt
pushed old kept new bytes (Some count) e all gathered = record { all = all; gathered = λ seen h. gathered seen (e ∙ h) }

pub returns : goal.returns
returns c = pushed _ _ _ _ c.push_digits.result c.in_default.ensures c.push_digits.ensures.count c.push_digits.ensures.gathered
