use Rattle.std.proofs.Common.{refl}
use Rattle.json5_walk.proofs.Entries.{not_parted, parted, comma_done, second_gap_hopeless, on_then, refused_then}
use Rattle.json5_walk.proofs.walk.Walk.part.Goals as goal

pub returns-then-not-comma-clause-parted : goal.returns-then-not-comma-clause-parted
returns-then-not-comma-clause-parted c = not_parted _ c.in_ok-gap.ensures.taken (c.if-not-comma.ensures.kept refl)

pub returns-clause-parted : goal.returns-clause-parted
returns-clause-parted c = on_then c.gap-2.result c.gap-2.ensures.taken (λ last. parted c.in_ok-gap.ensures.taken (c.if-not-comma.ensures.taken refl) last)

pub returns-clause-done : goal.returns-clause-done
returns-clause-done c = on_then c.gap-2.result c.gap-2.ensures.taken (λ last. comma_done c.in_ok-gap.ensures.taken (c.if-not-comma.ensures.taken refl) last)

pub returns-clause-refused : goal.returns-clause-refused
returns-clause-refused c = refused_then c.gap-2.result c.gap-2.ensures.refused (λ h. second_gap_hopeless c.in_ok-gap.ensures.taken (c.if-not-comma.ensures.taken refl) h)
