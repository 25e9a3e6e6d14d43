use Rattle.std.proofs.Common.{sym, subst}
use Rattle.std.specs.Str.{IsCharBoundary}
use Rattle.json5_convert.proofs.SourcesKept.{boundary}
use Rattle.json5_convert.proofs.sources.Source.text.Goals as goal

pub range_from-requires : goal.range_from-requires
range_from-requires g c = λ _. subst (λ t. IsCharBoundary t c.self.inside.given) (sym c.as_str.ensures.value) (boundary _ _ _ _ c.self.invariant)
