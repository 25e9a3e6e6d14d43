use Rattle.std.proofs.Common.{ℕ, Bool, true, false, List}
use Rattle.json5_lexemes.specs.Plain.{PlainText}
use Rattle.json5_lexemes.proofs.PlainTokens.{bare_plain}
use Rattle.json5_lexemes.proofs.plain.keeps_plain.Goals as goal

either : (text made : List ℕ) → PlainText false made → (comments : Bool) → PlainText comments text → PlainText comments made
either text made m false p = m
either text made m true p = bare_plain m

pub returns-then-is_plain_with : goal.returns-then-is_plain_with
returns-then-is_plain_with c = λ t. either _ _ (c.is_plain_with-then-is_plain_with.ensures.0 t)
