use Rattle.std.proofs.Common.{sym, subst}
use Rattle.std.specs.Str.{IsCharBoundary}
use Rattle.json5_convert.specs.Sources.{Held}
use Rattle.json5_convert.proofs.SourcesKept.{more_given}
use Rattle.json5_convert.proofs.sources.Source.give.Goals as goal

pub invariant_of-self : goal.invariant_of-self
invariant_of-self g c = more_given _ _ _ _ _ c.self.invariant (subst (λ (h : Held). IsCharBoundary h.text c.args.count) (sym c.self.view_is) c.requires)
