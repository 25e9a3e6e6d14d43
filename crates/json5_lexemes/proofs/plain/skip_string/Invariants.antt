use Rattle.std.proofs.Common.{ℕ, List, length}
use Rattle.std.specs.Prelude.{◌↔◌}
use denote.Text.{Utf8}
use denote.Shadow.{shadow}
use Rattle.std.specs.Str.{chars}
use Rattle.json5_grammar.specs.Language.Characters.{NotBegun}
use Rattle.json5_styles.specs.Json.{is_unescaped}
use Rattle.json5_lexemes.specs.PlainSteps.{TakesString}
use Rattle.json5_lexemes.proofs.plain.skip_string.Given as goal

abbrev pub invariant-loop-after : goal.invariant-loop-after
invariant-loop-after l = shadow (Utf8 l.rest) × NotBegun is_unescaped (chars l.rest) × ((r : List ℕ) → TakesString (chars l.fn.text) r ↔ TakesString (chars l.rest) r)

abbrev pub decreases-loop-after : goal.decreases-loop-after
decreases-loop-after l = length (chars l.rest)
