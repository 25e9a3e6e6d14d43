use Rattle.std.proofs.Common.{◌≡◌, ℕ, List, ◌++◌, length}
use denote.Text.{Utf8}
use denote.Shadow.{shadow}
use Rattle.std.specs.Str.{chars}
use Rattle.json5_grammar.specs.Language.Characters.{Each}
use Rattle.json5_tokens.specs.ScanTexts.{is_raw_part}
use Rattle.json5_tokens.proofs.names.skip_parts.Given as goal

abbrev pub invariant-loop-c : goal.invariant-loop-c
invariant-loop-c l = shadow (Utf8 l.rest) × ((raw : List ℕ) × (chars l.fn.text ≡ raw ++ chars l.rest) × Each is_raw_part raw)

abbrev pub decreases-loop-c : goal.decreases-loop-c
decreases-loop-c l = length l.rest
