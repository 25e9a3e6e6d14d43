use Rattle.std.proofs.Common.{length}
use Rattle.std.specs.Prelude.{◌↔◌}
use denote.Text.{Utf8}
use denote.Shadow.{shadow}
use Rattle.std.specs.Str.{chars}
use Rattle.json5_lexemes.specs.Plain.{Plain}
use Rattle.json5_lexemes.specs.declared.plain.Last.TheVariants as last
use Rattle.json5_lexemes.proofs.plain.is_plain_with.Given as goal

abbrev pub invariant-loop-rest : goal.invariant-loop-rest
invariant-loop-rest l = shadow (Utf8 l.rest) × (Plain l.fn.comments last.Sign (chars l.fn.text) ↔ Plain l.fn.comments l.last (chars l.rest))

abbrev pub decreases-loop-rest : goal.decreases-loop-rest
decreases-loop-rest l = length (chars l.rest)
