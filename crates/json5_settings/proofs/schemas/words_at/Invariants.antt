use Rattle.std.proofs.Common.{◌≡◌, drop}
use Rattle.json5_settings.specs.Schemas.{words_at}
use Rattle.json5_settings.proofs.schemas.words_at.Given as goal

-- no path before had the words
abbrev pub invariant-loop-path : goal.invariant-loop-path
invariant-loop-path l = words_at (drop l.path-index l.comments) l.fn.at ≡ words_at l.fn.comments l.fn.at
