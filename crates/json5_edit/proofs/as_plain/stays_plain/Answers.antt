use Rattle.std.proofs.Common.{ℕ, true, false, List}
use Rattle.json5_lexemes.specs.Plain.{PlainText, StaysPlain}
use Rattle.json5_lexemes.proofs.PlainTokens.{bare_plain}
use Rattle.json5_edit.proofs.as_plain.stays_plain.Goals as goal

either : (old value new : List ℕ) → PlainText false new → StaysPlain old value new
either old value new m false p q = m
either old value new m true p q = bare_plain m

pub returns-then-are_plain : goal.returns-then-are_plain
returns-then-are_plain c = λ t. either _ _ _ (c.is_plain_with.ensures.0 t)
