use Rattle.std.proofs.Common.{refl, sym, ◌∙◌}
use Rattle.json5_walk.proofs.Entries.{element_taken, key_awaited, none_needs, err_so}
use Rattle.json5_walk.proofs.walk.Walk.entry_key.Goals as goal

pub returns-in-Element-clause-taken : goal.returns-in-Element-clause-taken
returns-in-Element-clause-taken c = element_taken _ (sym c.next.ensures ∙ c.in-Element.is) refl c.offset-start.ensures c.offset-start.ensures

pub returns-in-Key-clause-refused : goal.returns-in-Key-clause-refused
returns-in-Key-clause-refused c = err_so c.member_key.result c.member_key.ensures.refused (λ e h s. h s.awaits.trail s.awaits.is_at (key_awaited s (sym c.next.ensures ∙ c.in-Key.is)))

pub returns-in_default-clause-refused : goal.returns-in_default-clause-refused
returns-in_default-clause-refused c = λ s. none_needs (λ h. c.in_default.not-Element (c.next.ensures ∙ h)) (λ h. c.in_default.not-Key (c.next.ensures ∙ h)) s
