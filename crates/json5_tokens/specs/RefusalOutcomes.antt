-- What a function below the scanner refused with, beside what reading on lists gives.
-- Private.
use Rattle.std.specs.Prelude.{◌≡◌, true, Some, None, ⊤}
use Rattle.json5_grammar.specs.Language.Numbers.{Number}
use Rattle.json5_grammar.specs.Model.Reading.{Read, got, bad}
use Rattle.json5_tokens.specs.Outcome.{Outcome, failed}
use Rattle.json5_tokens.specs.declared.refusal.Refusal.{Refusal}
use Rattle.json5_tokens.specs.declared.refusal.Refusal.TheVariants as refusal
use Rattle.json5_types.specs.NumberMeanings.{keeps_digits}

-- that memory ran out says nothing of the input
abbrev pub Refuses : {A : Type 0} → Refusal → Outcome A → Type 0
Refuses (refusal.TokenError c left) m = m ≡ failed (Some c) left
Refuses (refusal.InvalidNumber left) m = m ≡ failed None (Some left)
Refuses (refusal.TooLarge left) m = m ≡ failed None (Some left)
Refuses (refusal.UnpairedSurrogate escape left) m = m ≡ failed None (Some left)
Refuses refusal.OutOfMemory m = ⊤

-- a number was read whose digits are kept in memory
abbrev pub KeepsDigits : Read Number → Type 0
KeepsDigits (got n r) = keeps_digits n ≡ true
KeepsDigits (bad e p) = ⊥

-- memory is taken for a number's digits alone
abbrev pub WantsForDigits : Refusal → Read Number → Type 0
WantsForDigits (refusal.TokenError c left) m = ⊤
WantsForDigits (refusal.InvalidNumber left) m = ⊤
WantsForDigits (refusal.TooLarge left) m = ⊤
WantsForDigits (refusal.UnpairedSurrogate escape left) m = ⊤
WantsForDigits refusal.OutOfMemory m = KeepsDigits m
