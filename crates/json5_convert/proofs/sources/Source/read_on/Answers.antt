use Rattle.json5_convert.proofs.SourcesKept.{boundary}
use Rattle.json5_convert.proofs.sources.Source.read_on.Goals as goal

pub split_off-requires : goal.split_off-requires
split_off-requires g c = let (a, b) = boundary _ _ _ _ c.self.invariant in (a, λ _. b)
