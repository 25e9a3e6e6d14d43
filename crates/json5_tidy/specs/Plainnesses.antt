-- How much of JSON a text keeps to.
-- Private.
use Rattle.std.specs.Prelude.{⊤, ℕ, Bool, false, List}
use Rattle.json5_lexemes.specs.Plain.{PlainText}
use Rattle.json5_tidy.specs.declared.plainness.Plainness.{Plainness}
use Rattle.json5_tidy.specs.declared.plainness.Plainness.TheVariants as plainness

-- the text is no plainer than so
abbrev pub IsNoPlainer : Plainness → (text : List ℕ) → Type 0
IsNoPlainer plainness.Bare text = ⊤
IsNoPlainer plainness.Commented text = ¬ (PlainText false text)
IsNoPlainer plainness.Other text = (comments : Bool) → ¬ (PlainText comments text)
